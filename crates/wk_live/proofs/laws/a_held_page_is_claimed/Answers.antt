use Rattle.wk_live.proofs.TicketLaws.{held-is-claimed}
use Rattle.wk_live.proofs.laws.a_held_page_is_claimed.Goals as goal

pub returns : goal.returns
returns c = held-is-claimed
