use Rattle.wk_life_laws.proofs.RunFacts.{run_sealed}
use Rattle.wk_life_laws.proofs.seals.a_sealed_run_keeps_its_history.Goals as goal

pub returns : goal.returns
returns c = λ start journal state middle point run sealed at. run_sealed start journal state run middle point sealed at
