use Rattle.std.proofs.Common.{refl}
use Rattle.wk_subst_rules.specs.Computing.{computing}
use Rattle.wk_subst_examples.proofs.texts_of_pages.Goals as goal

pub returns-clause-sealed : goal.returns-clause-sealed
unfolding computing
returns-clause-sealed c = refl

pub returns-clause-not_included : goal.returns-clause-not_included
unfolding computing
returns-clause-not_included c = refl

pub returns-clause-included_alone : goal.returns-clause-included_alone
unfolding computing
returns-clause-included_alone c = refl

pub returns-clause-selected : goal.returns-clause-selected
unfolding computing
returns-clause-selected c = refl

pub returns-clause-other_template : goal.returns-clause-other_template
unfolding computing
returns-clause-other_template c = refl

pub returns-clause-default_with_a_bar : goal.returns-clause-default_with_a_bar
unfolding computing
returns-clause-default_with_a_bar c = refl

pub returns-clause-default_with_equals : goal.returns-clause-default_with_equals
unfolding computing
returns-clause-default_with_equals c = refl

pub returns-clause-source : goal.returns-clause-source
unfolding computing
returns-clause-source c = refl

pub returns-clause-call : goal.returns-clause-call
unfolding computing
returns-clause-call c = refl

pub returns-clause-made_title : goal.returns-clause-made_title
unfolding computing
returns-clause-made_title c = refl

pub returns-clause-redirect : goal.returns-clause-redirect
unfolding computing
returns-clause-redirect c = refl

pub returns-clause-redirect_is_not_asked : goal.returns-clause-redirect_is_not_asked
unfolding computing
returns-clause-redirect_is_not_asked c = refl
