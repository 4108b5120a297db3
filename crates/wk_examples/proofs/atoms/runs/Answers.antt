use Rattle.std.proofs.Common.{refl}
use Rattle.wk_examples.specs.Computing.{computing}
use Rattle.wk_examples.proofs.atoms.runs.Goals as goal

pub returns-clause-marks : goal.returns-clause-marks
unfolding computing
returns-clause-marks c = refl

pub returns-clause-starts : goal.returns-clause-starts
unfolding computing
returns-clause-starts c = refl
