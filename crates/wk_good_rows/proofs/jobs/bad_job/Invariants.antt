use Rattle.std.proofs.Common.{ltb, take}
use Rattle.wk_table_rules.specs.GoodStore.{is_good_job}
use Rattle.wk_good_rows.specs.JobKinds.{AreTitlesOf}
use Rattle.wk_good_rows.specs.Judged.{Judged}
use Rattle.wk_good_rows.specs.Order.{IsInOrder}
use Rattle.wk_good_rows.proofs.jobs.bad_job.Given as goal

abbrev pub invariant-loop-i : goal.invariant-loop-i
invariant-loop-i l = Judged (is_good_job l.tables) l.jobs l.i × IsInOrder (λ a b. ltb a.job_id b.job_id) l.jobs l.i × AreTitlesOf l.refreshes l.fans (take l.i l.jobs)
