use Rattle.wk_wiki_laws.proofs.Saved.{IsSound-saved}
use Rattle.wk_wiki_laws.proofs.soundness.a_save_keeps_soundness.Goals as goal

pub returns : goal.returns
returns c = IsSound-saved
