use Rattle.wk_wiki_laws.proofs.TicketSteps.{out-is-open, open-is-out, tickets-differ, ticket-stays, ticket-held, none-reopened}
use Rattle.wk_wiki_laws.proofs.journals.tickets_are_open_claims.Goals as goal

pub returns-clause-out : goal.returns-clause-out
returns-clause-out c = out-is-open

pub returns-clause-open_claims : goal.returns-clause-open_claims
returns-clause-open_claims c = open-is-out

pub returns-clause-differ : goal.returns-clause-differ
returns-clause-differ c = tickets-differ

pub returns-clause-kept : goal.returns-clause-kept
returns-clause-kept c = ticket-stays

pub returns-clause-reopened : goal.returns-clause-reopened
returns-clause-reopened c = none-reopened

pub returns-clause-held : goal.returns-clause-held
returns-clause-held c = ticket-held
