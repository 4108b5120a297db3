use Rattle.std.proofs.Common.{refl}
use Rattle.wk_replica_reads.specs.Looks.{seen_by}
use Rattle.wk_replica_reads.proofs.Ends.{looked-first}
use Rattle.wk_replica_reads.proofs.LookLaws.{read-goes}
use Rattle.wk_replica_reads.proofs.session.serve_reads.Goals as goal

pub returns-clause-session : goal.returns-clause-session
returns-clause-session g c =
    let shared = c.args.shared.now in
    looked-first (seen_by shared c.args.pass.now) (seen_by shared c.look-point.new.pass) (seen_by shared c.serve_all-end.new.pass) _ _ c.serve_all-end.result _ 0 _ refl c.new.ensures.items
    (read-goes shared c.args.pass.now c.look-point.new.pass c.look-point.ensures.pass) c.serve_all-end.ensures.session
