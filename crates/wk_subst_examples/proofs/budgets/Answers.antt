use Rattle.std.proofs.Common.{refl}
use Rattle.wk_subst_rules.specs.Computing.{computing}
use Rattle.wk_subst_examples.proofs.budgets.Goals as goal

pub returns-clause-enough : goal.returns-clause-enough
unfolding computing
returns-clause-enough c = refl

pub returns-clause-just_enough : goal.returns-clause-just_enough
unfolding computing
returns-clause-just_enough c = refl

pub returns-clause-ends_in_the_page : goal.returns-clause-ends_in_the_page
unfolding computing
returns-clause-ends_in_the_page c = refl

pub returns-clause-spent : goal.returns-clause-spent
unfolding computing
returns-clause-spent c = refl

pub returns-clause-shared : goal.returns-clause-shared
unfolding computing
returns-clause-shared c = refl

pub returns-clause-page : goal.returns-clause-page
unfolding computing
returns-clause-page c = refl

pub returns-clause-spent_by_a_page : goal.returns-clause-spent_by_a_page
unfolding computing
returns-clause-spent_by_a_page c = refl

pub returns-clause-page_just_paid : goal.returns-clause-page_just_paid
unfolding computing
returns-clause-page_just_paid c = refl

pub returns-clause-argument : goal.returns-clause-argument
unfolding computing
returns-clause-argument c = refl
