use Rattle.wk_wiki_laws.proofs.Sound.{IsSound-none}
use Rattle.wk_wiki_laws.proofs.soundness.an_empty_wiki_is_sound.Goals as goal

pub returns : goal.returns
returns c = IsSound-none
