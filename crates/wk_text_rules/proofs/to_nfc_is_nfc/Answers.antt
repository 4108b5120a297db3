use Rattle.wk_text_rules.proofs.TitleLemmas.{to_nfc-is}
use Rattle.wk_text_rules.proofs.to_nfc_is_nfc.Goals as goal

pub returns : goal.returns
returns c = to_nfc-is
