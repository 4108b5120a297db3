use Rattle.std.proofs.Common.{refl}
use Rattle.wk_examples.specs.Computing.{computing}
use Rattle.wk_examples.proofs.views.inclusions.Goals as goal

pub returns-clause-selected : goal.returns-clause-selected
unfolding computing
returns-clause-selected c = refl

pub returns-clause-viewed_itself : goal.returns-clause-viewed_itself
unfolding computing
returns-clause-viewed_itself c = refl

pub returns-clause-in_a_loop : goal.returns-clause-in_a_loop
unfolding computing
returns-clause-in_a_loop c = refl

pub returns-clause-loop_viewed : goal.returns-clause-loop_viewed
unfolding computing
returns-clause-loop_viewed c = refl

pub returns-clause-no_loop_in_an_argument : goal.returns-clause-no_loop_in_an_argument
unfolding computing
returns-clause-no_loop_in_an_argument c = refl

pub returns-clause-forty_deep : goal.returns-clause-forty_deep
unfolding computing
returns-clause-forty_deep c = refl

pub returns-clause-forty_one_deep : goal.returns-clause-forty_one_deep
unfolding computing
returns-clause-forty_one_deep c = refl

pub returns-clause-text_made_isnt_searched : goal.returns-clause-text_made_isnt_searched
unfolding computing
returns-clause-text_made_isnt_searched c = refl
