use Rattle.std.proofs.Common.{refl}
use Rattle.wk_text_rules.specs.Computing.{computing}
use Rattle.wk_examples.proofs.titles.illegal_keys.Goals as goal

pub returns-clause-empty : goal.returns-clause-empty
unfolding computing
returns-clause-empty c = refl

pub returns-clause-namespace_alone : goal.returns-clause-namespace_alone
unfolding computing
returns-clause-namespace_alone c = refl

pub returns-clause-percent_code : goal.returns-clause-percent_code
unfolding computing
returns-clause-percent_code c = refl

pub returns-clause-dot_part : goal.returns-clause-dot_part
unfolding computing
returns-clause-dot_part c = refl

pub returns-clause-reference : goal.returns-clause-reference
unfolding computing
returns-clause-reference c = refl

pub returns-clause-second_colon : goal.returns-clause-second_colon
unfolding computing
returns-clause-second_colon c = refl

pub returns-clause-tildes : goal.returns-clause-tildes
unfolding computing
returns-clause-tildes c = refl

pub returns-clause-bracket : goal.returns-clause-bracket
unfolding computing
returns-clause-bracket c = refl

pub returns-clause-dot : goal.returns-clause-dot
unfolding computing
returns-clause-dot c = refl

pub returns-clause-last_dot : goal.returns-clause-last_dot
unfolding computing
returns-clause-last_dot c = refl

pub returns-clause-first_dots : goal.returns-clause-first_dots
unfolding computing
returns-clause-first_dots c = refl

pub returns-clause-fragment_alone : goal.returns-clause-fragment_alone
unfolding computing
returns-clause-fragment_alone c = refl

pub returns-clause-underscores_alone : goal.returns-clause-underscores_alone
unfolding computing
returns-clause-underscores_alone c = refl

pub returns-clause-colon_behind_a_namespace : goal.returns-clause-colon_behind_a_namespace
unfolding computing
returns-clause-colon_behind_a_namespace c = refl

pub returns-clause-too_long : goal.returns-clause-too_long
unfolding computing
returns-clause-too_long c = refl

pub returns-clause-control : goal.returns-clause-control
unfolding computing
returns-clause-control c = refl
