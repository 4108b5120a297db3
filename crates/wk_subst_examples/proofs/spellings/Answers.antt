use Rattle.std.proofs.Common.{refl}
use Rattle.wk_subst_rules.specs.Computing.{computing}
use Rattle.wk_subst_examples.proofs.spellings.Goals as goal

pub returns-clause-case_and_blanks : goal.returns-clause-case_and_blanks
unfolding computing
returns-clause-case_and_blanks c = refl

pub returns-clause-newline : goal.returns-clause-newline
unfolding computing
returns-clause-newline c = refl

pub returns-clause-blank_before_the_colon : goal.returns-clause-blank_before_the_colon
unfolding computing
returns-clause-blank_before_the_colon c = refl

pub returns-clause-twice : goal.returns-clause-twice
unfolding computing
returns-clause-twice c = refl

pub returns-clause-comment_before : goal.returns-clause-comment_before
unfolding computing
returns-clause-comment_before c = refl

pub returns-clause-comment_behind : goal.returns-clause-comment_behind
unfolding computing
returns-clause-comment_behind c = refl

pub returns-clause-node_in_the_title : goal.returns-clause-node_in_the_title
unfolding computing
returns-clause-node_in_the_title c = refl

pub returns-clause-no_title : goal.returns-clause-no_title
unfolding computing
returns-clause-no_title c = refl

pub returns-clause-fragment : goal.returns-clause-fragment
unfolding computing
returns-clause-fragment c = refl

pub returns-clause-negative : goal.returns-clause-negative
unfolding computing
returns-clause-negative c = refl

pub returns-clause-negative_is_not_asked : goal.returns-clause-negative_is_not_asked
unfolding computing
returns-clause-negative_is_not_asked c = refl
