use Rattle.std.proofs.Common.{refl}
use Rattle.wk_wiki_rules.specs.Computing.{computing}
use Rattle.wk_examples.proofs.calls.an_existence_that_changed.Goals as goal

pub returns-clause-new : goal.returns-clause-new
unfolding computing
returns-clause-new c = refl

pub returns-clause-same : goal.returns-clause-same
unfolding computing
returns-clause-same c = refl

pub returns-clause-stale : goal.returns-clause-stale
unfolding computing
returns-clause-stale c = refl

pub returns-clause-fan : goal.returns-clause-fan
unfolding computing
returns-clause-fan c = refl

pub returns-clause-no_fan : goal.returns-clause-no_fan
unfolding computing
returns-clause-no_fan c = refl
