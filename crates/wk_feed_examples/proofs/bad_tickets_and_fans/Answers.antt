use Rattle.std.proofs.Common.{refl}
use Rattle.wk_feed_rules.specs.Computing.{computing}
use Rattle.wk_feed_examples.proofs.bad_tickets_and_fans.Goals as goal

pub returns-clause-done : goal.returns-clause-done
unfolding computing
returns-clause-done c = refl

pub returns-clause-twice : goal.returns-clause-twice
unfolding computing
returns-clause-twice c = refl

pub returns-clause-fan : goal.returns-clause-fan
unfolding computing
returns-clause-fan c = refl

pub returns-clause-first : goal.returns-clause-first
unfolding computing
returns-clause-first c = refl

pub returns-clause-done_twice : goal.returns-clause-done_twice
unfolding computing
returns-clause-done_twice c = refl
