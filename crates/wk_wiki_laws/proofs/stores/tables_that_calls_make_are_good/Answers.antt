use Rattle.wk_wiki_laws.proofs.Reached.{IsGood-reached}
use Rattle.wk_wiki_laws.proofs.stores.tables_that_calls_make_are_good.Goals as goal

pub returns : goal.returns
returns c = IsGood-reached
