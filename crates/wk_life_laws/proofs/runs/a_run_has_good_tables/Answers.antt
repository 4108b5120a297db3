use Rattle.wk_life_laws.proofs.RunFacts.{run_back, run_good, run_opened}
use Rattle.wk_life_laws.proofs.runs.a_run_has_good_tables.Goals as goal

pub returns-clause-good : goal.returns-clause-good
returns-clause-good c = run_good

pub returns-clause-stood_for : goal.returns-clause-stood_for
returns-clause-stood_for c = run_back

pub returns-clause-opened : goal.returns-clause-opened
returns-clause-opened c = run_opened
