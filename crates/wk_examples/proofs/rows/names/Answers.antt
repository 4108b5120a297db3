use Rattle.std.proofs.Common.{refl}
use Rattle.wk_examples.specs.Computing.{computing}
use Rattle.wk_examples.proofs.rows.names.Goals as goal

pub returns-clause-text : goal.returns-clause-text
unfolding computing
returns-clause-text c = refl

pub returns-clause-not_by_text : goal.returns-clause-not_by_text
unfolding computing
returns-clause-not_by_text c = refl

pub returns-clause-both : goal.returns-clause-both
unfolding computing
returns-clause-both c = refl

pub returns-clause-other : goal.returns-clause-other
unfolding computing
returns-clause-other c = refl
