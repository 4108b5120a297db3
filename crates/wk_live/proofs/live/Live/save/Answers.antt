use Rattle.std.proofs.Common.{◌≡◌, ◌<◌, ◌++◌, ◌∷◌, [], List, None, cond, eqb, not, length, ap, sym, ◌∙◌, arith}
use Rattle.std.specs.Prelude.{is_some}
use Rattle.wk_page_rules.specs.History.{History, page_number}
use Rattle.wk_page_rules.specs.PageRows.{PageRows, no_rows}
use Rattle.wk_page_rules.specs.Verdict.{max_pages}
use Rattle.wk_wiki_rules.specs.Steps.{reach_of_save}
use Rattle.wk_wiki_rules.specs.States.{State}
use Rattle.wk_wiki_rules.specs.Events.{with_saved}
use Rattle.wk_revs.specs.Standing.{standing}
use Rattle.wk_revs.specs.declared.standing.Standing.{Standing}
use Rattle.wk_live.specs.HeldState.{HeldState}
use Rattle.wk_live.specs.Wanted.{fan_of_save}
use Rattle.wk_live.proofs.SaveLaws.{lengths-saved, saved-state}
use Rattle.wk_live.proofs.live.Live.save.Goals as goal

pub add_page-requires-clause-fits : goal.add_page-requires-clause-fits
add_page-requires-clause-fits c = λ none.
    let new : page_number c.args.self.now.state.history c.args.title ≡ None = sym (ap (λ (s : Standing). s.page) c.requires.standing) ∙ none in
    let few : length c.args.self.now.state.history.pages < max_pages = c.requires.fits new in
    let pages = ap (λ (h : HeldState). length h.state.history.pages) c.self.view_is in
    let as_many = c.self.invariant in
    omega (arith, few, pages, as_many)

pub invariant_of-self : goal.invariant_of-self
invariant_of-self c =
    let stored = c.self.inside.index.stored in
    let stands : c.args.standing ≡ standing c.self.inside.revs.history c.args.title = c.requires.standing ∙ ap (λ (h : HeldState). standing h.state.history c.args.title) (sym c.self.view_is) in
    ap (λ (rows : List PageRows). length rows) (c.add_page.ensures ∙ ap (λ (s : Standing). cond (is_some s.page) stored (stored ++ no_rows ∷ [])) stands)
    ∙ (lengths-saved c.self.inside.revs.history stored c.args.title c.args.text c.args.moment c.self.invariant
    ∙ ap (λ (h : History). length h.pages) (sym c.add.ensures.history))

pub returns-clause-state : goal.returns-clause-state
returns-clause-state c =
    let state : State = record { history = c.self.inside.revs.history; stored = c.self.inside.index.stored; jobs = c.self.inside.jobs.lists } in
    let stands : c.args.standing ≡ standing c.self.inside.revs.history c.args.title = c.requires.standing ∙ ap (λ (h : HeldState). standing h.state.history c.args.title) (sym c.self.view_is) in
    saved-state state c.args.title c.args.text c.args.moment c.add.new.self.history c.add_page.new.index.stored c.queue_jobs.new.jobs.lists
    c.args.standing c.reach-reach.result c.args.fan stands
    c.add.ensures.history c.add_page.ensures
    (c.reach-reach.ensures ∙ ap (reach_of_save (not (eqb c.args.standing.current 0))) c.is_some.ensures)
    (c.requires.fan ∙ ap (λ (h : HeldState). fan_of_save h.state c.args.title c.args.text) (sym c.self.view_is))
    c.queue_jobs.ensures
    ∙ ap (λ (h : HeldState). with_saved h.state c.args.title c.args.text c.args.moment) c.self.view_is
