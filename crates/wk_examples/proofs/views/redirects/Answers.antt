use Rattle.std.proofs.Common.{refl}
use Rattle.wk_examples.specs.Computing.{computing}
use Rattle.wk_examples.proofs.views.redirects.Goals as goal

pub returns-clause-followed : goal.returns-clause-followed
unfolding computing
returns-clause-followed c = refl

pub returns-clause-followed_reads : goal.returns-clause-followed_reads
unfolding computing
returns-clause-followed_reads c = refl

pub returns-clause-viewed_itself : goal.returns-clause-viewed_itself
unfolding computing
returns-clause-viewed_itself c = refl

pub returns-clause-to_itself : goal.returns-clause-to_itself
unfolding computing
returns-clause-to_itself c = refl

pub returns-clause-to_nothing : goal.returns-clause-to_nothing
unfolding computing
returns-clause-to_nothing c = refl

pub returns-clause-to_nothing_reads : goal.returns-clause-to_nothing_reads
unfolding computing
returns-clause-to_nothing_reads c = refl

pub returns-clause-in_a_loop : goal.returns-clause-in_a_loop
unfolding computing
returns-clause-in_a_loop c = refl

pub returns-clause-no_second : goal.returns-clause-no_second
unfolding computing
returns-clause-no_second c = refl

pub returns-clause-arguments : goal.returns-clause-arguments
unfolding computing
returns-clause-arguments c = refl
