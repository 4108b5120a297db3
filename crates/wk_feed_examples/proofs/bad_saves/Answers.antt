use Rattle.std.proofs.Common.{refl}
use Rattle.wk_feed_rules.specs.Computing.{computing}
use Rattle.wk_feed_examples.proofs.bad_saves.Goals as goal

pub returns-clause-not_capital : goal.returns-clause-not_capital
unfolding computing
returns-clause-not_capital c = refl

pub returns-clause-underscore : goal.returns-clause-underscore
unfolding computing
returns-clause-underscore c = refl

pub returns-clause-special : goal.returns-clause-special
unfolding computing
returns-clause-special c = refl

pub returns-clause-blank_end : goal.returns-clause-blank_end
unfolding computing
returns-clause-blank_end c = refl

pub returns-clause-carriage_return : goal.returns-clause-carriage_return
unfolding computing
returns-clause-carriage_return c = refl

pub returns-clause-no_change : goal.returns-clause-no_change
unfolding computing
returns-clause-no_change c = refl

pub returns-clause-no_page : goal.returns-clause-no_page
unfolding computing
returns-clause-no_page c = refl

pub returns-clause-no_title : goal.returns-clause-no_title
unfolding computing
returns-clause-no_title c = refl
