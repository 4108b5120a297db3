use Rattle.std.proofs.Common.{refl}
use Rattle.wk_examples.specs.Computing.{computing}
use Rattle.wk_examples.proofs.rows.redirects.Goals as goal

pub returns-clause-included : goal.returns-clause-included
unfolding computing
returns-clause-included c = refl

pub returns-clause-viewed : goal.returns-clause-viewed
unfolding computing
returns-clause-viewed c = refl
