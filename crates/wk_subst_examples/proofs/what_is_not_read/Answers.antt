use Rattle.std.proofs.Common.{refl}
use Rattle.wk_subst_rules.specs.Computing.{computing}
use Rattle.wk_subst_examples.proofs.what_is_not_read.Goals as goal

pub returns-clause-sealed : goal.returns-clause-sealed
unfolding computing
returns-clause-sealed c = refl

pub returns-clause-comment : goal.returns-clause-comment
unfolding computing
returns-clause-comment c = refl

pub returns-clause-included : goal.returns-clause-included
unfolding computing
returns-clause-included c = refl

pub returns-clause-viewed : goal.returns-clause-viewed
unfolding computing
returns-clause-viewed c = refl

pub returns-clause-unclosed : goal.returns-clause-unclosed
unfolding computing
returns-clause-unclosed c = refl

pub returns-clause-nothing_asked : goal.returns-clause-nothing_asked
unfolding computing
returns-clause-nothing_asked c = refl
