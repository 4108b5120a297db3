use Rattle.std.proofs.Common.{refl}
use Rattle.wk_examples.specs.Computing.{computing}
use Rattle.wk_examples.proofs.links.sealed_bytes.Goals as goal

pub returns-clause-in_a_label : goal.returns-clause-in_a_label
unfolding computing
returns-clause-in_a_label c = refl

pub returns-clause-in_a_target : goal.returns-clause-in_a_target
unfolding computing
returns-clause-in_a_target c = refl

pub returns-clause-in_a_mark : goal.returns-clause-in_a_mark
unfolding computing
returns-clause-in_a_mark c = refl
