use Rattle.wk_thread_tests.specs.Ready.{IsReady}
use Rattle.wk_thread_tests.proofs.raced.save_behind.Given as goal

abbrev pub invariant-saves : goal.invariant-saves
invariant-saves g l = IsReady l.shared l.pass
