use Rattle.std.proofs.Common.{refl}
use Rattle.wk_subst_rules.specs.Computing.{computing}
use Rattle.wk_subst_examples.proofs.operands.Goals as goal

pub returns-clause-call : goal.returns-clause-call
unfolding computing
returns-clause-call c = refl

pub returns-clause-order : goal.returns-clause-order
unfolding computing
returns-clause-order c = refl

pub returns-clause-the_call_itself : goal.returns-clause-the_call_itself
unfolding computing
returns-clause-the_call_itself c = refl

pub returns-clause-beside : goal.returns-clause-beside
unfolding computing
returns-clause-beside c = refl

pub returns-clause-asked_once : goal.returns-clause-asked_once
unfolding computing
returns-clause-asked_once c = refl

pub returns-clause-missing_page_has_no_operands : goal.returns-clause-missing_page_has_no_operands
unfolding computing
returns-clause-missing_page_has_no_operands c = refl

pub returns-clause-argument : goal.returns-clause-argument
unfolding computing
returns-clause-argument c = refl

pub returns-clause-comment : goal.returns-clause-comment
unfolding computing
returns-clause-comment c = refl

pub returns-clause-untrimmed : goal.returns-clause-untrimmed
unfolding computing
returns-clause-untrimmed c = refl

pub returns-clause-trimmed : goal.returns-clause-trimmed
unfolding computing
returns-clause-trimmed c = refl

pub returns-clause-later : goal.returns-clause-later
unfolding computing
returns-clause-later c = refl

pub returns-clause-equals : goal.returns-clause-equals
unfolding computing
returns-clause-equals c = refl
