use Rattle.std.proofs.Common.{◌≡◌, false}
use Rattle.wk_request.specs.Asked.{request_asked}
use Rattle.wk_replica_reads.proofs.ReadLaws.{given-as}
use Rattle.wk_replica_reads.proofs.replicas.answered.Goals as goal

pub returns : goal.returns
returns c =
    let replica = c.args.replica.now in
    given-as replica.start.wiki replica.journal replica.state (request_asked c.args.request.now) (replica.stopped ≡ false) c.answer.result c.facts.ensures.run c.answer.ensures.going (c.answer.ensures.value 0)
