use Rattle.wk_life_laws.proofs.RunTickets.{run_claimed, run_new, run_stays}
use Rattle.wk_life_laws.proofs.tickets.a_ticket_stays_of_its_page.Goals as goal

pub returns-clause-new : goal.returns-clause-new
returns-clause-new c = run_new

pub returns-clause-claimed : goal.returns-clause-claimed
returns-clause-claimed c = λ start journal state page run first. run_claimed start journal state run page first

pub returns-clause-stays : goal.returns-clause-stays
returns-clause-stays c = λ start journal state next event ticket page run done holds not_done not_back. run_stays start journal state run next event ticket page done holds not_done not_back
