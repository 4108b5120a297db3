use Rattle.std.proofs.Common.{refl}
use Rattle.wk_feed_rules.specs.Computing.{computing}
use Rattle.wk_feed_examples.proofs.a_cut_feed.Goals as goal

pub returns-clause-newline : goal.returns-clause-newline
unfolding computing
returns-clause-newline c = refl

pub returns-clause-within : goal.returns-clause-within
unfolding computing
returns-clause-within c = refl

pub returns-clause-start : goal.returns-clause-start
unfolding computing
returns-clause-start c = refl

pub returns-clause-nothing : goal.returns-clause-nothing
unfolding computing
returns-clause-nothing c = refl
