use Rattle.wk_life_laws.proofs.RunFacts.{run_kept, run_pages}
use Rattle.wk_life_laws.proofs.runs.a_run_keeps_its_form.Goals as goal

pub returns-clause-kept : goal.returns-clause-kept
returns-clause-kept c = run_kept

pub returns-clause-formed : goal.returns-clause-formed
returns-clause-formed c = λ start journal state run. (run_kept start journal state run).formed

pub returns-clause-next : goal.returns-clause-next
returns-clause-next c = λ start journal state run. (run_kept start journal state run).next

pub returns-clause-pages : goal.returns-clause-pages
returns-clause-pages c = run_pages
