use Rattle.std.proofs.Common.{refl}
use Rattle.wk_examples.specs.Computing.{computing}
use Rattle.wk_examples.proofs.rows.reads_as_rows.Goals as goal

pub returns-clause-missing_template : goal.returns-clause-missing_template
unfolding computing
returns-clause-missing_template c = refl

pub returns-clause-existence : goal.returns-clause-existence
unfolding computing
returns-clause-existence c = refl

pub returns-clause-template_of_a_template : goal.returns-clause-template_of_a_template
unfolding computing
returns-clause-template_of_a_template c = refl
