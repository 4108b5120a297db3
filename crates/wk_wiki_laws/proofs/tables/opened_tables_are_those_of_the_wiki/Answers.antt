use Rattle.wk_wiki_laws.proofs.StoresOpened.{opened-newest, migration-makes}
use Rattle.wk_wiki_laws.proofs.tables.opened_tables_are_those_of_the_wiki.Goals as goal

pub returns-clause-newest : goal.returns-clause-newest
returns-clause-newest c = opened-newest

pub returns-clause-migrated : goal.returns-clause-migrated
returns-clause-migrated c = migration-makes
