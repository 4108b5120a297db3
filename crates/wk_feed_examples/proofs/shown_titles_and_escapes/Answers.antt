use Rattle.std.proofs.Common.{refl}
use Rattle.wk_feed_rules.specs.Computing.{computing}
use Rattle.wk_feed_examples.proofs.shown_titles_and_escapes.Goals as goal

pub returns-clause-template : goal.returns-clause-template
unfolding computing
returns-clause-template c = refl

pub returns-clause-quoted : goal.returns-clause-quoted
unfolding computing
returns-clause-quoted c = refl

pub returns-clause-said_again : goal.returns-clause-said_again
unfolding computing
returns-clause-said_again c = refl
