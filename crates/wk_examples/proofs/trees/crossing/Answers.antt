use Rattle.std.proofs.Common.{refl}
use Rattle.wk_examples.specs.Computing.{computing}
use Rattle.wk_examples.proofs.trees.crossing.Goals as goal

pub returns-clause-brackets_open : goal.returns-clause-brackets_open
unfolding computing
returns-clause-brackets_open c = refl

pub returns-clause-braces_open : goal.returns-clause-braces_open
unfolding computing
returns-clause-braces_open c = refl

pub returns-clause-brackets_within : goal.returns-clause-brackets_within
unfolding computing
returns-clause-brackets_within c = refl

pub returns-clause-node_within_brackets : goal.returns-clause-node_within_brackets
unfolding computing
returns-clause-node_within_brackets c = refl

pub returns-clause-equals_within_brackets : goal.returns-clause-equals_within_brackets
unfolding computing
returns-clause-equals_within_brackets c = refl

pub returns-clause-three_brackets : goal.returns-clause-three_brackets
unfolding computing
returns-clause-three_brackets c = refl

pub returns-clause-four_brackets : goal.returns-clause-four_brackets
unfolding computing
returns-clause-four_brackets c = refl
