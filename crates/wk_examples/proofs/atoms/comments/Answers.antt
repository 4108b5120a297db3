use Rattle.std.proofs.Common.{refl}
use Rattle.wk_examples.specs.Computing.{computing}
use Rattle.wk_examples.proofs.atoms.comments.Goals as goal

pub returns-clause-line : goal.returns-clause-line
unfolding computing
returns-clause-line c = refl

pub returns-clause-within_a_line : goal.returns-clause-within_a_line
unfolding computing
returns-clause-within_a_line c = refl

pub returns-clause-two_lines : goal.returns-clause-two_lines
unfolding computing
returns-clause-two_lines c = refl

pub returns-clause-none_at_the_start : goal.returns-clause-none_at_the_start
unfolding computing
returns-clause-none_at_the_start c = refl

pub returns-clause-open_comment : goal.returns-clause-open_comment
unfolding computing
returns-clause-open_comment c = refl

pub returns-clause-overlapping_marks : goal.returns-clause-overlapping_marks
unfolding computing
returns-clause-overlapping_marks c = refl
