use Rattle.std.proofs.Common.{subst, sym, ap, ◌∙◌}
use Rattle.std.specs.Prelude.{IsTrue}
use Rattle.wk_wiki_rules.specs.States.{world_of}
use Rattle.wk_wiki_rules.specs.Passes.{shown_number}
use Rattle.wk_life_laws.specs.Caches.{IsLastingEntry}
use Rattle.wk_cache.specs.Entries.{entry_kept}
use Rattle.wk_expand.specs.Drafts.{DraftShown}
use Rattle.wk_read_laws.specs.Points.{AreReadSince}
use Rattle.wk_shared.specs.Looks.{TellsCurrent}
use Rattle.wk_shared.specs.Sought.{kept_of}
use Rattle.wk_shared.proofs.KeepLaws.{found-lasting}
use Rattle.wk_shared.proofs.LookLaws.{looked-as}
use Rattle.wk_shared.proofs.looks.look_and_keep.Goals as goal

pub keep_found-requires : goal.keep_found-requires
keep_found-requires g c =
    let found = c.found_in-found in
    let wiki = c.take-held.result.value in
    let own = ap (λ (d : DraftShown). d.given) c.draft-made.ensures ∙ c.requires.own_text in
    let since = subst (λ (d : DraftShown). AreReadSince c.args.shared.now.start c.args.pass.now.seen c.requires.since.0 d.reads) (sym c.draft-made.ensures) c.requires.since.1 in
    subst (λ (d : DraftShown). IsTrue found.result.current → IsLastingEntry wiki.state (entry_kept (kept_of d found.result.point found.result.id))) c.draft-made.ensures
    (λ now. found-lasting c.args.shared.now c.args.pass.now c.take-held.new.pass wiki c.requires.since.0 c.draft-made.result.now found.result.point found.result.id c.take-held.ensures.taken
    c.page-page.ensures.everywhere own since (found.ensures.current.none_stale now) found.ensures.point found.ensures.id)

pub returns-clause-looked : goal.returns-clause-looked
returns-clause-looked g c =
    let found = c.found_in-found in
    let wiki = c.take-held.result.value in (
      wiki.state,
      looked-as c.args.shared.now c.args.pass.now c.take-held.new.pass wiki c.take-held.ensures.taken c.requires.free.turn c.give.new.pass c.keep_found.new.wiki c.keep_found.ensures c.give.ensures,
      found.ensures.id ∙ ap (λ (d : DraftShown). shown_number wiki.state.history d.page) c.draft-made.ensures,
      subst (λ (d : DraftShown). TellsCurrent (world_of wiki.state) d.reads found.result.current) c.draft-made.ensures found.ensures.current,
    )
