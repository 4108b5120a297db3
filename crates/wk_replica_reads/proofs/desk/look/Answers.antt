use Rattle.std.proofs.Common.{◌∙◌, sym, ap, length}
use Rattle.wk_replica_reads.proofs.LookLaws.{looked, seen-is}
use Rattle.wk_replica_reads.proofs.desk.look.Goals as goal

pub returns-clause-pass : goal.returns-clause-pass
returns-clause-pass g c =
    looked c.args.shared.now c.args.pass.now c.take-held.new.pass c.take-held.result.value c.take-held.ensures.taken c.give.new.pass c.give.ensures c.requires.turn

pub returns-clause-point : goal.returns-clause-point
returns-clause-point g c =
    c.taken-point.ensures ∙ ap length (sym (seen-is c.args.shared.now c.args.pass.now c.take-held.new.pass c.take-held.result.value c.take-held.ensures.taken c.give.new.pass c.give.ensures))
