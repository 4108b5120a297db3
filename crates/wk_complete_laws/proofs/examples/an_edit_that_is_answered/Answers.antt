use Rattle.std.proofs.Common.{lit≤, refl}
use Rattle.wk_answer_rules.specs.Computing.{computing}
use Rattle.wk_wiki_rules.specs.States.{no_state}
use Rattle.wk_session_rules.specs.Replies.{saved}
use Rattle.wk_complete_laws.specs.Example.{save_a}
use Rattle.wk_complete_laws.proofs.examples.an_edit_that_is_answered.Goals as goal

pub returns-clause-began : goal.returns-clause-began
returns-clause-began c = record { count = 0; failed = refl; rises = lit≤ tt }

pub returns-clause-answered : goal.returns-clause-answered
unfolding computing
returns-clause-answered c = saved {point = 0} {state = no_state} {event = save_a} refl (record { later = lit≤ tt; seen = lit≤ tt; stands = refl }) refl refl

pub returns-clause-told : goal.returns-clause-told
unfolding computing
returns-clause-told c = refl
