use Rattle.wk_thread_tests.proofs.Held.{begins-it, closes-nothing, left-as-before}
use Rattle.wk_thread_tests.proofs.calls.put_back.Goals as goal

pub leave-requires-clause-journal : goal.leave-requires-clause-journal
leave-requires-clause-journal g c = begins-it _ _ c.requires.same

pub leave-requires-clause-closes : goal.leave-requires-clause-closes
leave-requires-clause-closes g c = closes-nothing _ _ c.requires.same c.args.pass.now.own

pub returns : goal.returns
returns g c = left-as-before _ _ c.requires.same c.args.pass.now c.leave.new.pass c.leave.ensures.pass
