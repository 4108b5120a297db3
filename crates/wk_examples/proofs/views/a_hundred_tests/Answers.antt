use Rattle.std.proofs.Common.{refl}
use Rattle.wk_examples.specs.Computing.{computing}
use Rattle.wk_examples.proofs.views.a_hundred_tests.Goals as goal

pub returns-clause-text : goal.returns-clause-text
unfolding computing
returns-clause-text c = refl

pub returns-clause-reads : goal.returns-clause-reads
unfolding computing
returns-clause-reads c = refl
