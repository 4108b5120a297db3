use Rattle.std.proofs.Common.{refl}
use Rattle.wk_examples.specs.Computing.{computing}
use Rattle.wk_examples.proofs.numerals.sealed_bytes.Goals as goal

pub returns-clause-sealed : goal.returns-clause-sealed
unfolding computing
returns-clause-sealed c = refl

pub returns-clause-plain : goal.returns-clause-plain
unfolding computing
returns-clause-plain c = refl

pub returns-clause-mixed : goal.returns-clause-mixed
unfolding computing
returns-clause-mixed c = refl
