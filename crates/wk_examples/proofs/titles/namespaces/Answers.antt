use Rattle.std.proofs.Common.{refl}
use Rattle.wk_text_rules.specs.Computing.{computing}
use Rattle.wk_examples.proofs.titles.namespaces.Goals as goal

pub returns-clause-spaces_and_fragment : goal.returns-clause-spaces_and_fragment
unfolding computing
returns-clause-spaces_and_fragment c = refl

pub returns-clause-leading_colon : goal.returns-clause-leading_colon
unfolding computing
returns-clause-leading_colon c = refl

pub returns-clause-second_name : goal.returns-clause-second_name
unfolding computing
returns-clause-second_name c = refl

pub returns-clause-underscore_in_a_name : goal.returns-clause-underscore_in_a_name
unfolding computing
returns-clause-underscore_in_a_name c = refl

pub returns-clause-once_only : goal.returns-clause-once_only
unfolding computing
returns-clause-once_only c = refl

pub returns-clause-default_namespace : goal.returns-clause-default_namespace
unfolding computing
returns-clause-default_namespace c = refl

pub returns-clause-colon_for_main : goal.returns-clause-colon_for_main
unfolding computing
returns-clause-colon_for_main c = refl

pub returns-clause-any_case : goal.returns-clause-any_case
unfolding computing
returns-clause-any_case c = refl

pub returns-clause-special : goal.returns-clause-special
unfolding computing
returns-clause-special c = refl

pub returns-clause-media : goal.returns-clause-media
unfolding computing
returns-clause-media c = refl

pub returns-clause-no_colon : goal.returns-clause-no_colon
unfolding computing
returns-clause-no_colon c = refl
