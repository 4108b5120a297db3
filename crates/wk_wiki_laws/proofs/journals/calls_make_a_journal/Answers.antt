use Rattle.wk_wiki_laws.proofs.Parts.{replay-calls}
use Rattle.wk_wiki_laws.proofs.journals.calls_make_a_journal.Goals as goal

pub returns : goal.returns
returns c = replay-calls
