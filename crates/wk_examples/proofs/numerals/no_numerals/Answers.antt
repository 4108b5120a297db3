use Rattle.std.proofs.Common.{refl}
use Rattle.wk_examples.specs.Computing.{computing}
use Rattle.wk_examples.proofs.numerals.no_numerals.Goals as goal

pub returns-clause-point_last : goal.returns-clause-point_last
unfolding computing
returns-clause-point_last c = refl

pub returns-clause-exponent_alone : goal.returns-clause-exponent_alone
unfolding computing
returns-clause-exponent_alone c = refl

pub returns-clause-no_digits_in_the_exponent : goal.returns-clause-no_digits_in_the_exponent
unfolding computing
returns-clause-no_digits_in_the_exponent c = refl

pub returns-clause-exponent_too_great : goal.returns-clause-exponent_too_great
unfolding computing
returns-clause-exponent_too_great c = refl

pub returns-clause-two_points : goal.returns-clause-two_points
unfolding computing
returns-clause-two_points c = refl

pub returns-clause-blank : goal.returns-clause-blank
unfolding computing
returns-clause-blank c = refl

pub returns-clause-same_bytes : goal.returns-clause-same_bytes
unfolding computing
returns-clause-same_bytes c = refl

pub returns-clause-empty : goal.returns-clause-empty
unfolding computing
returns-clause-empty c = refl
