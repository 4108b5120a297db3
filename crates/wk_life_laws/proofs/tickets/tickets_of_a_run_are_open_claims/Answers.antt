use Rattle.wk_life_laws.proofs.RunTickets.{run_differ, run_numbers, run_open, run_out}
use Rattle.wk_life_laws.proofs.tickets.tickets_of_a_run_are_open_claims.Goals as goal

pub returns-clause-out : goal.returns-clause-out
returns-clause-out c = λ start journal state ticket page run holds. run_out start journal state run ticket page holds

pub returns-clause-open_claims : goal.returns-clause-open_claims
returns-clause-open_claims c = λ start journal state ticket run is_open. run_open start journal state run ticket is_open

pub returns-clause-differ : goal.returns-clause-differ
returns-clause-differ c = run_differ

pub returns-clause-numbers : goal.returns-clause-numbers
returns-clause-numbers c = λ start journal state ticket page run holds. run_numbers start journal state run ticket page holds
