use Rattle.wk_life_laws.proofs.RunFacts.{run_parts, run_present, run_replayed}
use Rattle.wk_life_laws.proofs.runs.a_run_is_replayed.Goals as goal

pub returns-clause-replayed : goal.returns-clause-replayed
returns-clause-replayed c = run_replayed

pub returns-clause-present : goal.returns-clause-present
returns-clause-present c = run_present

pub returns-clause-seen : goal.returns-clause-seen
returns-clause-seen c = λ start journal state own run. run_present start journal state run

pub returns-clause-point : goal.returns-clause-point
returns-clause-point c = λ start journal state point run. let parts = run_parts start journal state run point in (parts.0, parts.1.0)
