use Rattle.wk_wiki_laws.proofs.Fanned.{IsSound-fanned}
use Rattle.wk_wiki_laws.proofs.soundness.a_fan_keeps_soundness.Goals as goal

pub returns : goal.returns
returns c = IsSound-fanned
