use Rattle.std.proofs.Common.{refl}
use Rattle.wk_examples.specs.Computing.{computing}
use Rattle.wk_examples.proofs.views.limits_are_reached_and_not_passed.Goals as goal

pub returns-clause-last_node : goal.returns-clause-last_node
unfolding computing
returns-clause-last_node c = refl

pub returns-clause-no_node_left : goal.returns-clause-no_node_left
unfolding computing
returns-clause-no_node_left c = refl

pub returns-clause-too_few_nodes_left : goal.returns-clause-too_few_nodes_left
unfolding computing
returns-clause-too_few_nodes_left c = refl

pub returns-clause-last_byte_of_arguments : goal.returns-clause-last_byte_of_arguments
unfolding computing
returns-clause-last_byte_of_arguments c = refl

pub returns-clause-too_many_bytes_of_arguments : goal.returns-clause-too_many_bytes_of_arguments
unfolding computing
returns-clause-too_many_bytes_of_arguments c = refl

pub returns-clause-last_byte_of_inclusions : goal.returns-clause-last_byte_of_inclusions
unfolding computing
returns-clause-last_byte_of_inclusions c = refl

pub returns-clause-too_many_bytes_of_inclusions : goal.returns-clause-too_many_bytes_of_inclusions
unfolding computing
returns-clause-too_many_bytes_of_inclusions c = refl
