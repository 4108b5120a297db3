use Rattle.wk_live.proofs.SaveLaws.{saved-jobs}
use Rattle.wk_core.proofs.FanJobs.{given-behind, stands-behind, wanted-behind, written-behind}
use Rattle.wk_core.proofs.laws.a_save_makes_a_fan_job_where_one_is_wanted.Goals as goal

pub returns-clause-stands : goal.returns-clause-stands
returns-clause-stands c = stands-behind

pub returns-clause-wanted : goal.returns-clause-wanted
returns-clause-wanted c = wanted-behind

pub returns-clause-asked : goal.returns-clause-asked
returns-clause-asked c = wanted-behind

pub returns-clause-given : goal.returns-clause-given
returns-clause-given c = given-behind

pub returns-clause-made : goal.returns-clause-made
returns-clause-made c = saved-jobs

pub returns-clause-written : goal.returns-clause-written
returns-clause-written c = written-behind
