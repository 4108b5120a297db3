use Rattle.wk_life_laws.proofs.TicketsBehind.{out_back, out_claimed, out_done, out_fanned, out_saved}
use Rattle.wk_life_laws.proofs.room.events_change_the_tickets_that_are_out.Goals as goal

pub returns-clause-saved : goal.returns-clause-saved
returns-clause-saved c = out_saved

pub returns-clause-claimed : goal.returns-clause-claimed
returns-clause-claimed c = out_claimed

pub returns-clause-done : goal.returns-clause-done
returns-clause-done c = out_done

pub returns-clause-given_back : goal.returns-clause-given_back
returns-clause-given_back c = out_back

pub returns-clause-fanned : goal.returns-clause-fanned
returns-clause-fanned c = out_fanned
