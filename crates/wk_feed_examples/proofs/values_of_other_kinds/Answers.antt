use Rattle.std.proofs.Common.{refl}
use Rattle.wk_feed_rules.specs.Computing.{computing}
use Rattle.wk_feed_examples.proofs.values_of_other_kinds.Goals as goal

pub returns-clause-version : goal.returns-clause-version
unfolding computing
returns-clause-version c = refl

pub returns-clause-other_key : goal.returns-clause-other_key
unfolding computing
returns-clause-other_key c = refl

pub returns-clause-text : goal.returns-clause-text
unfolding computing
returns-clause-text c = refl

pub returns-clause-negative : goal.returns-clause-negative
unfolding computing
returns-clause-negative c = refl

pub returns-clause-too_great : goal.returns-clause-too_great
unfolding computing
returns-clause-too_great c = refl

pub returns-clause-two : goal.returns-clause-two
unfolding computing
returns-clause-two c = refl

pub returns-clause-boolean : goal.returns-clause-boolean
unfolding computing
returns-clause-boolean c = refl

pub returns-clause-no_title : goal.returns-clause-no_title
unfolding computing
returns-clause-no_title c = refl

pub returns-clause-greatest : goal.returns-clause-greatest
unfolding computing
returns-clause-greatest c = refl
