use Rattle.std.proofs.Common.{◌≡◌, true, false, ◌||◌, ap, sym, subst, ◌∙◌}
use Rattle.std.specs.Prelude.{IfOk}
use Rattle.wk_wiki_rules.specs.Jobs.{has_fan}
use Rattle.wk_wiki_rules.specs.Users.{some_page_names}
use Rattle.wk_live.specs.HeldState.{HeldState}
use Rattle.wk_live.specs.Wanted.{wants_fan}
use Rattle.wk_live.proofs.live.Live.wants_fan.Goals as goal

pub returns-then-has_fan : goal.returns-then-has_fan
returns-then-has_fan c =
    let there : has_fan c.self.inside.jobs.lists c.args.title.now ≡ true = sym c.has_fan.ensures ∙ c.if-has_fan.true in
    sym (ap (λ b. b || some_page_names c.self.inside.index.stored c.args.title.now c.args.reach) there)
    ∙ ap (λ (h : HeldState). wants_fan h.state c.args.title.now c.args.reach) c.self.view_is

pub returns : goal.returns
returns c =
    let none : has_fan c.self.inside.jobs.lists c.args.title.now ≡ false = sym c.has_fan.ensures ∙ c.if-has_fan.false in
    let same : some_page_names c.self.inside.index.stored c.args.title.now c.args.reach ≡ wants_fan c.args.self.now.state c.args.title.now c.args.reach =
    sym (ap (λ b. b || some_page_names c.self.inside.index.stored c.args.title.now c.args.reach) none)
    ∙ ap (λ (h : HeldState). wants_fan h.state c.args.title.now c.args.reach) c.self.view_is in
    subst (λ b. IfOk c.some_page_names.result (λ wants. wants ≡ b)) same c.some_page_names.ensures
