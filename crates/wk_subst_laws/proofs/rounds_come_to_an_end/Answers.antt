use Rattle.wk_subst_laws.proofs.RoundLemmas.{rounds-saved}
use Rattle.wk_subst_laws.proofs.rounds_come_to_an_end.Goals as goal

pub returns : goal.returns
returns c = rounds-saved
