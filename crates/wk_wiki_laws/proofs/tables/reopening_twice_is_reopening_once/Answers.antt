use Rattle.wk_wiki_laws.proofs.StoresOpened.{reopened-again}
use Rattle.wk_wiki_laws.proofs.tables.reopening_twice_is_reopening_once.Goals as goal

pub returns : goal.returns
returns c = reopened-again
