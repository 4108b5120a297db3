use Rattle.wk_life_laws.proofs.KeptAgain.{kept-again}
use Rattle.wk_life_laws.proofs.accepted_saves.kept_text_is_kept_unchanged.Goals as goal

pub returns : goal.returns
returns c = kept-again
