use Rattle.std.proofs.Common.{refl}
use Rattle.wk_subst_rules.specs.Computing.{computing}
use Rattle.wk_subst_examples.proofs.names.Goals as goal

pub returns-clause-not_bound : goal.returns-clause-not_bound
unfolding computing
returns-clause-not_bound c = refl

pub returns-clause-empty_name : goal.returns-clause-empty_name
unfolding computing
returns-clause-empty_name c = refl

pub returns-clause-comment : goal.returns-clause-comment
unfolding computing
returns-clause-comment c = refl

pub returns-clause-same_comment : goal.returns-clause-same_comment
unfolding computing
returns-clause-same_comment c = refl

pub returns-clause-sealed : goal.returns-clause-sealed
unfolding computing
returns-clause-sealed c = refl

pub returns-clause-sealed_twice : goal.returns-clause-sealed_twice
unfolding computing
returns-clause-sealed_twice c = refl

pub returns-clause-sealed_but_transformed : goal.returns-clause-sealed_but_transformed
unfolding computing
returns-clause-sealed_but_transformed c = refl

pub returns-clause-node_in_a_name : goal.returns-clause-node_in_a_name
unfolding computing
returns-clause-node_in_a_name c = refl

pub returns-clause-node_as_a_name : goal.returns-clause-node_as_a_name
unfolding computing
returns-clause-node_as_a_name c = refl
