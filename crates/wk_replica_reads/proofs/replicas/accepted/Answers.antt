use Rattle.std.proofs.Common.{◌≡◌, refl, subst}
use Rattle.wk_view_rules.specs.Worlds.{IsSeen}
use Rattle.wk_wiki_rules.specs.Passes.{shown_number}
use Rattle.wk_wiki_rules.specs.States.{world_of}
use Rattle.wk_expand.specs.Drafts.{DraftShown, IsDraft}
use Rattle.wk_read_laws.proofs.PointLaws.{reads-honest}
use Rattle.wk_shared.specs.Looks.{TellsCurrent}
use Rattle.wk_shared.proofs.LookLaws.{not-false}
use Rattle.wk_replica_reads.proofs.ReadLaws.{current-read, read-of}
use Rattle.wk_replica_reads.proofs.replicas.accepted.Goals as goal

pub keep_own-requires-clause-read : goal.keep_own-requires-clause-read
keep_own-requires-clause-read c =
    let replica = c.args.replica.now in
    let d = c.args.draft in
    let found = c.found_here-found in
    let draft = subst (λ (x : DraftShown). IsDraft x.page x.given x.expanded x.reads) c.draft-made.ensures c.page-page.ensures.everywhere in
    let seen = subst (λ (x : DraftShown). IsSeen x.reads) c.draft-made.ensures c.reads-reads.ensures.seen in
    let current = subst (λ (x : DraftShown). TellsCurrent (world_of replica.state) x.reads found.result.current) c.draft-made.ensures found.ensures.current in
    let number = subst (λ (x : DraftShown). found.result.id ≡ shown_number replica.state.history x.page) c.draft-made.ensures found.ensures.id in
    let honest = reads-honest replica.start.wiki replica.journal replica.state c.requires.since.0 d.reads found.ensures.run c.requires.since.1 in (
      d.page,
      read-of replica.start.wiki replica.journal replica.state d.page d.page d.given _ _ refl c.requires.given
          (current-read replica.start.wiki replica.journal replica.state found.ensures.run d found.result.point found.result.id draft honest seen.formed
          (current.none_stale (not-false found.result.current c.if-not-found.false)) found.ensures.point number),
    )

pub returns-clause-read : goal.returns-clause-read
returns-clause-read c =
    let replica = c.args.replica.now in
    let d = c.args.draft in
    let found = c.found_here-found in
    let draft = subst (λ (x : DraftShown). IsDraft x.page x.given x.expanded x.reads) c.draft-made.ensures c.page-page.ensures.everywhere in
    let seen = subst (λ (x : DraftShown). IsSeen x.reads) c.draft-made.ensures c.reads-reads.ensures.seen in
    let current = subst (λ (x : DraftShown). TellsCurrent (world_of replica.state) x.reads found.result.current) c.draft-made.ensures found.ensures.current in
    let number = subst (λ (x : DraftShown). found.result.id ≡ shown_number replica.state.history x.page) c.draft-made.ensures found.ensures.id in
    let honest = reads-honest replica.start.wiki replica.journal replica.state c.requires.since.0 d.reads found.ensures.run c.requires.since.1 in
    current-read replica.start.wiki replica.journal replica.state found.ensures.run d found.result.point found.result.id draft honest seen.formed
    (current.none_stale (not-false found.result.current c.if-not-found.false)) found.ensures.point number
