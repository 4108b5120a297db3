use Rattle.wk_subst_laws.proofs.RoundLemmas.{length-result}
use Rattle.wk_subst_laws.proofs.results_are_bounded.Goals as goal

pub returns : goal.returns
returns c = length-result
