use Rattle.std.proofs.Common.{refl}
use Rattle.wk_report_rules.specs.Computing.{computing}
use Rattle.wk_report_examples.proofs.titles_that_stand_twice.Goals as goal

pub returns-clause-rows : goal.returns-clause-rows
unfolding computing
returns-clause-rows c = refl

pub returns-clause-text : goal.returns-clause-text
unfolding computing
returns-clause-text c = refl
