use Rattle.wk_core.proofs.TicketFacts.{out-stays}
use Rattle.wk_core.proofs.laws.a_ticket_stays_out.Goals as goal

pub returns : goal.returns
returns c = out-stays
