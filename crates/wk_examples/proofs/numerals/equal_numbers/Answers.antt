use Rattle.std.proofs.Common.{refl}
use Rattle.wk_examples.specs.Computing.{computing}
use Rattle.wk_examples.proofs.numerals.equal_numbers.Goals as goal

pub returns-clause-sign_and_zeros : goal.returns-clause-sign_and_zeros
unfolding computing
returns-clause-sign_and_zeros c = refl

pub returns-clause-zero_has_no_sign : goal.returns-clause-zero_has_no_sign
unfolding computing
returns-clause-zero_has_no_sign c = refl

pub returns-clause-point_first : goal.returns-clause-point_first
unfolding computing
returns-clause-point_first c = refl

pub returns-clause-exponent_down : goal.returns-clause-exponent_down
unfolding computing
returns-clause-exponent_down c = refl

pub returns-clause-exponent_up : goal.returns-clause-exponent_up
unfolding computing
returns-clause-exponent_up c = refl

pub returns-clause-great_exponents : goal.returns-clause-great_exponents
unfolding computing
returns-clause-great_exponents c = refl

pub returns-clause-exact : goal.returns-clause-exact
unfolding computing
returns-clause-exact c = refl

pub returns-clause-signs : goal.returns-clause-signs
unfolding computing
returns-clause-signs c = refl
