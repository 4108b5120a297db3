use Rattle.std.proofs.Common.{refl}
use Rattle.wk_feed_rules.specs.Computing.{computing}
use Rattle.wk_feed_examples.proofs.bad_starts.Goals as goal

pub returns-clause-no_version : goal.returns-clause-no_version
unfolding computing
returns-clause-no_version c = refl

pub returns-clause-first_version : goal.returns-clause-first_version
unfolding computing
returns-clause-first_version c = refl

pub returns-clause-leading_zero : goal.returns-clause-leading_zero
unfolding computing
returns-clause-leading_zero c = refl

pub returns-clause-broken_rule : goal.returns-clause-broken_rule
unfolding computing
returns-clause-broken_rule c = refl

pub returns-clause-row_behind : goal.returns-clause-row_behind
unfolding computing
returns-clause-row_behind c = refl

pub returns-clause-second : goal.returns-clause-second
unfolding computing
returns-clause-second c = refl

pub returns-clause-event_before : goal.returns-clause-event_before
unfolding computing
returns-clause-event_before c = refl

pub returns-clause-third_version : goal.returns-clause-third_version
unfolding computing
returns-clause-third_version c = refl

pub returns-clause-save_before : goal.returns-clause-save_before
unfolding computing
returns-clause-save_before c = refl
