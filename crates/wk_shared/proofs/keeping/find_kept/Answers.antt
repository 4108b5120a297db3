use Rattle.std.proofs.Common.{◌≡◌, None, length, subst, sym}
use Rattle.std.specs.Prelude.{IfSome}
use Rattle.wk_view_rules.specs.Worlds.{IsSeen}
use Rattle.wk_wiki_rules.specs.States.{world_of}
use Rattle.wk_wiki_rules.specs.Staleness.{first_stale}
use Rattle.wk_life_laws.specs.Caches.{IsLastingEntry}
use Rattle.wk_cache.specs.Entries.{entry_kept, marked_with}
use Rattle.wk_cache.specs.declared.kept.Kept.{Kept}
use Rattle.wk_expand.specs.Drafts.{DraftShown, IsDraft}
use Rattle.wk_shared.proofs.KeepLaws.{current-kept, marked-lasting}
use Rattle.wk_shared.proofs.keeping.find_kept.Goals as goal

pub keep-requires : goal.keep-requires
keep-requires g c =
    let wiki = c.args.wiki.now in
    let kept = c.in-Some.kept in
    let is = subst (λ f. IfSome f (λ (k : Kept). (k.draft.page ≡ c.args.title.now) × IsLastingEntry wiki.state (entry_kept k))) c.in-Some.is c.in-Ok.ensures.kept in
    subst (λ w. IsLastingEntry w.state (entry_kept (marked_with c.point-point.result 0 kept))) (sym c.in-Ok.ensures.same) (marked-lasting wiki.state kept c.point-point.result 0 is.1)

pub returns-clause-kept : goal.returns-clause-kept
returns-clause-kept g c =
    let wiki = c.args.wiki.now in
    let kept = c.in-Some.kept in
    let is = subst (λ f. IfSome f (λ (k : Kept). (k.draft.page ≡ c.args.title.now) × IsLastingEntry wiki.state (entry_kept k))) c.in-Some.is c.in-Ok.ensures.kept in
    let draft = subst (λ (d : DraftShown). IsDraft d.page d.given d.expanded d.reads) c.draft-made.ensures c.page-page.ensures.everywhere in
    let seen = subst (λ (d : DraftShown). IsSeen d.reads) c.draft-made.ensures c.reads-reads.ensures.seen in
    let made = subst (λ w. first_stale (world_of w.state) c.draft-made.result.now.reads ≡ None) c.in-Ok.ensures.same (c.is_current.ensures.current c.if-not-is_current.false) in
    let none = subst (λ (d : DraftShown). first_stale (world_of wiki.state) d.reads ≡ None) c.draft-made.ensures made in
    let at = subst (λ w. c.point-point.result ≡ length w.journal) c.in-Ok.ensures.same c.point-point.ensures in
    current-kept wiki.start wiki.journal wiki.state c.args.title.now kept c.point-point.result c.facts.ensures.run is.1 is.0 draft seen none at
