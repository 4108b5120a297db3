use Rattle.std.proofs.Common.{refl}
use Rattle.wk_feed_rules.specs.Computing.{computing}
use Rattle.wk_feed_examples.proofs.deletions_and_empty_texts.Goals as goal

pub returns-clause-deletion : goal.returns-clause-deletion
unfolding computing
returns-clause-deletion c = refl

pub returns-clause-null : goal.returns-clause-null
unfolding computing
returns-clause-null c = refl

pub returns-clause-empty : goal.returns-clause-empty
unfolding computing
returns-clause-empty c = refl

pub returns-clause-null_said : goal.returns-clause-null_said
unfolding computing
returns-clause-null_said c = refl

pub returns-clause-told : goal.returns-clause-told
unfolding computing
returns-clause-told c = refl

pub returns-clause-gone_row : goal.returns-clause-gone_row
unfolding computing
returns-clause-gone_row c = refl
