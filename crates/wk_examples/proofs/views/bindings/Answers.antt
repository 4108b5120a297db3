use Rattle.std.proofs.Common.{refl}
use Rattle.wk_examples.specs.Computing.{computing}
use Rattle.wk_examples.proofs.views.bindings.Goals as goal

pub returns-clause-brackets_and_equals : goal.returns-clause-brackets_and_equals
unfolding computing
returns-clause-brackets_and_equals c = refl

pub returns-clause-blank_ends : goal.returns-clause-blank_ends
unfolding computing
returns-clause-blank_ends c = refl

pub returns-clause-number_as_a_name : goal.returns-clause-number_as_a_name
unfolding computing
returns-clause-number_as_a_name c = refl

pub returns-clause-later_name : goal.returns-clause-later_name
unfolding computing
returns-clause-later_name c = refl

pub returns-clause-no_leading_zero : goal.returns-clause-no_leading_zero
unfolding computing
returns-clause-no_leading_zero c = refl

pub returns-clause-empty_name : goal.returns-clause-empty_name
unfolding computing
returns-clause-empty_name c = refl

pub returns-clause-sealed_name : goal.returns-clause-sealed_name
unfolding computing
returns-clause-sealed_name c = refl

pub returns-clause-empty_value : goal.returns-clause-empty_value
unfolding computing
returns-clause-empty_value c = refl

pub returns-clause-name_from_an_argument : goal.returns-clause-name_from_an_argument
unfolding computing
returns-clause-name_from_an_argument c = refl

pub returns-clause-names_are_read_first : goal.returns-clause-names_are_read_first
unfolding computing
returns-clause-names_are_read_first c = refl
