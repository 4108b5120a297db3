use Rattle.std.proofs.Common.{refl}
use Rattle.wk_examples.specs.Computing.{computing}
use Rattle.wk_examples.proofs.links.brackets.Goals as goal

pub returns-clause-three_closing : goal.returns-clause-three_closing
unfolding computing
returns-clause-three_closing c = refl

pub returns-clause-three_opening : goal.returns-clause-three_opening
unfolding computing
returns-clause-three_opening c = refl

pub returns-clause-opening_in_a_label : goal.returns-clause-opening_in_a_label
unfolding computing
returns-clause-opening_in_a_label c = refl

pub returns-clause-bar_in_a_label : goal.returns-clause-bar_in_a_label
unfolding computing
returns-clause-bar_in_a_label c = refl

pub returns-clause-bracket_in_a_target : goal.returns-clause-bracket_in_a_target
unfolding computing
returns-clause-bracket_in_a_target c = refl

pub returns-clause-newline_in_a_target : goal.returns-clause-newline_in_a_target
unfolding computing
returns-clause-newline_in_a_target c = refl

pub returns-clause-unclosed : goal.returns-clause-unclosed
unfolding computing
returns-clause-unclosed c = refl
