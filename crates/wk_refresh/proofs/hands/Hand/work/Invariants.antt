use Rattle.wk_refresh.proofs.DrainLaws.{Steps}
use Rattle.wk_refresh.proofs.hands.Hand.work.Given as goal

abbrev pub invariant-steps : goal.invariant-steps
invariant-steps g l = Steps l.shared l.fn.self.worker.reader.pass l.self.worker.reader.pass
