use Rattle.std.proofs.Common.{refl}
use Rattle.wk_examples.specs.Computing.{computing}
use Rattle.wk_examples.proofs.redirects.targets.Goals as goal

pub returns-clause-capitals : goal.returns-clause-capitals
unfolding computing
returns-clause-capitals c = refl

pub returns-clause-close : goal.returns-clause-close
unfolding computing
returns-clause-close c = refl

pub returns-clause-blanks_and_a_colon : goal.returns-clause-blanks_and_a_colon
unfolding computing
returns-clause-blanks_and_a_colon c = refl

pub returns-clause-label : goal.returns-clause-label
unfolding computing
returns-clause-label c = refl

pub returns-clause-empty_label : goal.returns-clause-empty_label
unfolding computing
returns-clause-empty_label c = refl
