use Rattle.std.proofs.Common.{refl}
use Rattle.wk_subst_rules.specs.Computing.{computing}
use Rattle.wk_subst_examples.proofs.open_nodes.Goals as goal

pub returns-clause-in_two_pages : goal.returns-clause-in_two_pages
unfolding computing
returns-clause-in_two_pages c = refl

pub returns-clause-two_hundred : goal.returns-clause-two_hundred
unfolding computing
returns-clause-two_hundred c = refl

pub returns-clause-one_more : goal.returns-clause-one_more
unfolding computing
returns-clause-one_more c = refl
