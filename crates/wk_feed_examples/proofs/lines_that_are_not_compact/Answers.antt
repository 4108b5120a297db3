use Rattle.std.proofs.Common.{refl}
use Rattle.wk_feed_rules.specs.Computing.{computing}
use Rattle.wk_feed_examples.proofs.lines_that_are_not_compact.Goals as goal

pub returns-clause-before : goal.returns-clause-before
unfolding computing
returns-clause-before c = refl

pub returns-clause-behind : goal.returns-clause-behind
unfolding computing
returns-clause-behind c = refl

pub returns-clause-between : goal.returns-clause-between
unfolding computing
returns-clause-between c = refl

pub returns-clause-carriage_return : goal.returns-clause-carriage_return
unfolding computing
returns-clause-carriage_return c = refl

pub returns-clause-escaped : goal.returns-clause-escaped
unfolding computing
returns-clause-escaped c = refl

pub returns-clause-whole_float : goal.returns-clause-whole_float
unfolding computing
returns-clause-whole_float c = refl

pub returns-clause-power : goal.returns-clause-power
unfolding computing
returns-clause-power c = refl
