use Rattle.std.proofs.Common.{◌≡◌, sym, subst, ◌∙◌}
use Rattle.std.specs.Prelude.{IfOk}
use Rattle.wk_view_rules.specs.Worlds.{answer_in}
use Rattle.wk_wiki_rules.specs.States.{State, world_of}
use Rattle.wk_expand.specs.Answers.{answer_of}
use Rattle.wk_replica_reads.proofs.ReadLaws.{fetched-as}
use Rattle.wk_replica_reads.proofs.replicas.fetched.Goals as goal

pub returns : goal.returns
returns c =
    let replica = c.args.replica.now in
    let going = c.stopped.ensures in
    fetched-as replica.start.wiki replica.journal replica.state c.args.title.now c.args.kind c.fetch.result (c.facts.ensures.run (sym going ∙ c.if-stopped.false))
    (subst (λ (s : State). IfOk c.fetch.result (λ a. answer_of a ≡ answer_in (world_of s) c.args.title.now c.args.kind)) c.wiki.ensures.state c.fetch.ensures)
