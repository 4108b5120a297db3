use Rattle.std.proofs.Common.{refl}
use Rattle.wk_feed_rules.specs.Computing.{computing}
use Rattle.wk_feed_examples.proofs.a_claim_without_a_job.Goals as goal

pub returns-clause-empty : goal.returns-clause-empty
unfolding computing
returns-clause-empty c = refl

pub returns-clause-taken : goal.returns-clause-taken
unfolding computing
returns-clause-taken c = refl
