use Rattle.std.proofs.Common.{◌≡◌, subst}
use Rattle.wk_wiki_rules.specs.Passes.{shown_number}
use Rattle.wk_wiki_rules.specs.States.{State, world_of}
use Rattle.wk_expand.specs.Drafts.{DraftShown}
use Rattle.wk_expand.specs.Steps.{given_text}
use Rattle.wk_live.specs.Drafted.{IsPresent}
use Rattle.wk_replica_reads.proofs.ReadLaws.{present-read}
use Rattle.wk_replica_reads.proofs.replicas.drafted_here.Goals as goal

pub keep_own-requires-clause-read : goal.keep_own-requires-clause-read
keep_own-requires-clause-read c =
    let replica = c.args.replica.now in
    let found = c.found_here-found in
    let is = subst (λ (s : State). IsPresent (world_of s) c.args.title.now (given_text c.args.root.now) c.in_ok-draft.draft) c.wiki.ensures.state c.in_ok-draft.ensures in
    let number = subst (λ (x : DraftShown). found.result.id ≡ shown_number replica.state.history x.page) c.draft.ensures found.ensures.id in (
      c.args.title.now,
      present-read replica.start.wiki replica.journal replica.state found.ensures.run c.args.title.now (given_text c.args.root.now) c.in_ok-draft.draft found.result.point found.result.id is
          found.ensures.point number,
    )

pub returns-clause-read : goal.returns-clause-read
returns-clause-read c =
    let replica = c.args.replica.now in
    let found = c.found_here-found in
    let is = subst (λ (s : State). IsPresent (world_of s) c.args.title.now (given_text c.args.root.now) c.in_ok-draft.draft) c.wiki.ensures.state c.in_ok-draft.ensures in
    let number = subst (λ (x : DraftShown). found.result.id ≡ shown_number replica.state.history x.page) c.draft.ensures found.ensures.id in
    present-read replica.start.wiki replica.journal replica.state found.ensures.run c.args.title.now (given_text c.args.root.now) c.in_ok-draft.draft found.result.point found.result.id is
    found.ensures.point number
