use Rattle.std.proofs.Common.{lit≤, refl}
use Rattle.wk_complete_laws.proofs.Runs.{claimed-run, draft-held, ticket-held}
use Rattle.wk_complete_laws.proofs.examples.a_refresh_that_is_current_in_turn.Goals as goal

pub returns-clause-run : goal.returns-clause-run
returns-clause-run c = claimed-run

pub returns-clause-free : goal.returns-clause-free
returns-clause-free c = λ turn. record { turn = (refl, refl); free = refl }

pub returns-clause-ticket : goal.returns-clause-ticket
returns-clause-ticket c = ticket-held

pub returns-clause-draft : goal.returns-clause-draft
returns-clause-draft c = draft-held

pub returns-clause-whole : goal.returns-clause-whole
returns-clause-whole c = record { count = 0; failed = refl; rises = lit≤ tt }
