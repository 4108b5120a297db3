use Rattle.wk_answer_laws.proofs.Orders.{early, bad-title, of-an-edit, of-a-change, unchanged-none, accepted-event, subst-untitled, subst-too-big, subst-judged}
use Rattle.wk_answer_laws.proofs.refusals_come_in_order.Goals as goal

pub returns-clause-point : goal.returns-clause-point
returns-clause-point c = early

pub returns-clause-title : goal.returns-clause-title
returns-clause-title c = bad-title

pub returns-clause-edit : goal.returns-clause-edit
returns-clause-edit c = of-an-edit

pub returns-clause-change : goal.returns-clause-change
returns-clause-change c = of-a-change

pub returns-clause-same : goal.returns-clause-same
returns-clause-same c = unchanged-none

pub returns-clause-saved : goal.returns-clause-saved
returns-clause-saved c = accepted-event

pub returns-clause-subst_title : goal.returns-clause-subst_title
returns-clause-subst_title c = subst-untitled

pub returns-clause-subst_size : goal.returns-clause-subst_size
returns-clause-subst_size c = subst-too-big

pub returns-clause-subst_judged : goal.returns-clause-subst_judged
returns-clause-subst_judged c = subst-judged
