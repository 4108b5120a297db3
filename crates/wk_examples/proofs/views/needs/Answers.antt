use Rattle.std.proofs.Common.{refl}
use Rattle.wk_examples.specs.Computing.{computing}
use Rattle.wk_examples.proofs.views.needs.Goals as goal

pub returns-clause-the_page : goal.returns-clause-the_page
unfolding computing
returns-clause-the_page c = refl

pub returns-clause-a_template : goal.returns-clause-a_template
unfolding computing
returns-clause-a_template c = refl

pub returns-clause-existence_first : goal.returns-clause-existence_first
unfolding computing
returns-clause-existence_first c = refl
