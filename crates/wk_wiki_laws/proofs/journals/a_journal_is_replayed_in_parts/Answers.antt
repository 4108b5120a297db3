use Rattle.wk_wiki_laws.proofs.Parts.{replay-append}
use Rattle.wk_wiki_laws.proofs.journals.a_journal_is_replayed_in_parts.Goals as goal

pub returns : goal.returns
returns c = replay-append
