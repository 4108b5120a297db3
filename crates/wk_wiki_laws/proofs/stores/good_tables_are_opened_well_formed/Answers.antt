use Rattle.wk_wiki_laws.proofs.GoodOpened.{IsWellFormed-state_of, IsWellFormed-opened}
use Rattle.wk_wiki_laws.proofs.stores.good_tables_are_opened_well_formed.Goals as goal

pub returns-clause-stood_for : goal.returns-clause-stood_for
returns-clause-stood_for c = IsWellFormed-state_of

pub returns-clause-opened : goal.returns-clause-opened
returns-clause-opened c = IsWellFormed-opened
