use Rattle.std.proofs.Common.{length, ap, arith}
use Rattle.wk_out.proofs.RunLaws.{length-cut}
use Rattle.wk_out.proofs.output.Out.len.Goals as goal

pub returns : goal.returns
returns c = omega (arith, length-cut _ _ c.self.invariant.covers, ap length c.self.view_is)
