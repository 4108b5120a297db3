use Rattle.std.proofs.Common.{refl}
use Rattle.wk_subst_rules.specs.Computing.{computing}
use Rattle.wk_subst_examples.proofs.templates_are_put_in.Goals as goal

pub returns-clause-argument : goal.returns-clause-argument
unfolding computing
returns-clause-argument c = refl

pub returns-clause-within_a_template : goal.returns-clause-within_a_template
unfolding computing
returns-clause-within_a_template c = refl

pub returns-clause-within_an_argument : goal.returns-clause-within_an_argument
unfolding computing
returns-clause-within_an_argument c = refl

pub returns-clause-missing : goal.returns-clause-missing
unfolding computing
returns-clause-missing c = refl

pub returns-clause-missing_is_asked : goal.returns-clause-missing_is_asked
unfolding computing
returns-clause-missing_is_asked c = refl

pub returns-clause-other_namespace : goal.returns-clause-other_namespace
unfolding computing
returns-clause-other_namespace c = refl

pub returns-clause-unseen : goal.returns-clause-unseen
unfolding computing
returns-clause-unseen c = refl
