use Rattle.wk_thread_tests.specs.Ready.{IsReady}
use Rattle.wk_thread_tests.proofs.reads.read_again.Given as goal

abbrev pub invariant-reads : goal.invariant-reads
invariant-reads g l = IsReady l.shared l.reader.pass
