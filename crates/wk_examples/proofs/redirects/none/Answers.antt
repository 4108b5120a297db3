use Rattle.std.proofs.Common.{refl}
use Rattle.wk_examples.specs.Computing.{computing}
use Rattle.wk_examples.proofs.redirects.none.Goals as goal

pub returns-clause-two_colons : goal.returns-clause-two_colons
unfolding computing
returns-clause-two_colons c = refl

pub returns-clause-comment_before : goal.returns-clause-comment_before
unfolding computing
returns-clause-comment_before c = refl

pub returns-clause-newline_in_a_label : goal.returns-clause-newline_in_a_label
unfolding computing
returns-clause-newline_in_a_label c = refl

pub returns-clause-no_title : goal.returns-clause-no_title
unfolding computing
returns-clause-no_title c = refl

pub returns-clause-negative_namespace : goal.returns-clause-negative_namespace
unfolding computing
returns-clause-negative_namespace c = refl

pub returns-clause-text_before : goal.returns-clause-text_before
unfolding computing
returns-clause-text_before c = refl

pub returns-clause-unclosed : goal.returns-clause-unclosed
unfolding computing
returns-clause-unclosed c = refl
