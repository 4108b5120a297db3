use Rattle.std.proofs.Common.{refl}
use Rattle.wk_examples.specs.Computing.{computing}
use Rattle.wk_examples.proofs.atoms.tags.Goals as goal

pub returns-clause-viewed : goal.returns-clause-viewed
unfolding computing
returns-clause-viewed c = refl

pub returns-clause-included : goal.returns-clause-included
unfolding computing
returns-clause-included c = refl

pub returns-clause-stray_end : goal.returns-clause-stray_end
unfolding computing
returns-clause-stray_end c = refl
