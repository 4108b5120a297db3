use Rattle.std.proofs.Common.{subst}
use Rattle.wk_expand.specs.Steps.{given_text}
use Rattle.wk_replica_reads.specs.Looks.{IsReadIn}
use Rattle.wk_replica_reads.proofs.replicas.keep_own.Goals as goal

pub keep-requires-clause-read : goal.keep-requires-clause-read
keep-requires-clause-read c =
    let replica = c.args.replica.now in
    (c.requires.read.0, subst (λ r. IsReadIn replica.start.wiki replica.journal replica.state c.requires.read.0 (given_text r) c.args.read.now) c.in-Page.is c.requires.read.1)
