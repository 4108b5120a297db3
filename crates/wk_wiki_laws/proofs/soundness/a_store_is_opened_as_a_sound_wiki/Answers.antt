use Rattle.wk_wiki_laws.proofs.Opened.{IsSound-opened, IsSound-opened_old}
use Rattle.wk_wiki_laws.proofs.soundness.a_store_is_opened_as_a_sound_wiki.Goals as goal

pub returns-clause-first_version : goal.returns-clause-first_version
returns-clause-first_version c = IsSound-opened_old

pub returns-clause-sound_rows : goal.returns-clause-sound_rows
returns-clause-sound_rows c = IsSound-opened
