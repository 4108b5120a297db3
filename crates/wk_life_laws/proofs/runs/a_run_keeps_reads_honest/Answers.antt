use Rattle.wk_life_laws.proofs.RunFacts.{run_honest, run_lasting}
use Rattle.wk_life_laws.proofs.runs.a_run_keeps_reads_honest.Goals as goal

pub returns-clause-reads : goal.returns-clause-reads
returns-clause-reads c = λ start journal state middle point reads run at honest. run_honest start journal state run middle point reads at honest

pub returns-clause-entries : goal.returns-clause-entries
returns-clause-entries c = λ start journal state middle point entry run at lasting. run_lasting start journal state run middle point entry at lasting
