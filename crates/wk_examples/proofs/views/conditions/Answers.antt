use Rattle.std.proofs.Common.{refl}
use Rattle.wk_examples.specs.Computing.{computing}
use Rattle.wk_examples.proofs.views.conditions.Goals as goal

pub returns-clause-blank : goal.returns-clause-blank
unfolding computing
returns-clause-blank c = refl

pub returns-clause-not_blank : goal.returns-clause-not_blank
unfolding computing
returns-clause-not_blank c = refl

pub returns-clause-no_operand : goal.returns-clause-no_operand
unfolding computing
returns-clause-no_operand c = refl

pub returns-clause-equal_numbers : goal.returns-clause-equal_numbers
unfolding computing
returns-clause-equal_numbers c = refl

pub returns-clause-equal_to_nothing : goal.returns-clause-equal_to_nothing
unfolding computing
returns-clause-equal_to_nothing c = refl

pub returns-clause-no_error : goal.returns-clause-no_error
unfolding computing
returns-clause-no_error c = refl

pub returns-clause-no_error_with_an_operand : goal.returns-clause-no_error_with_an_operand
unfolding computing
returns-clause-no_error_with_an_operand c = refl

pub returns-clause-error : goal.returns-clause-error
unfolding computing
returns-clause-error c = refl

pub returns-clause-error_in_sealed_text : goal.returns-clause-error_in_sealed_text
unfolding computing
returns-clause-error_in_sealed_text c = refl

pub returns-clause-only_what_is_named : goal.returns-clause-only_what_is_named
unfolding computing
returns-clause-only_what_is_named c = refl
