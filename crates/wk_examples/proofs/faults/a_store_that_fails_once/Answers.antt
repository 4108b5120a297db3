use Rattle.std.proofs.Common.{refl}
use Rattle.wk_script_rules.specs.Runs.{as_answered, save_failed, over, timed}
use Rattle.wk_script_rules.specs.Computing.{computing as scripts}
use Rattle.wk_examples.proofs.faults.a_store_that_fails_once.Goals as goal

pub returns-clause-run : goal.returns-clause-run
unfolding scripts
returns-clause-run c = timed refl as_answered (timed refl (save_failed refl) (timed refl as_answered over))

pub returns-clause-told : goal.returns-clause-told
unfolding scripts
returns-clause-told c = refl
