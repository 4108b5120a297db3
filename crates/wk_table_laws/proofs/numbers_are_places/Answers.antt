use Rattle.wk_table_laws.proofs.GoodChanges.{page_id-is, rev_id-is}
use Rattle.wk_table_laws.proofs.numbers_are_places.Goals as goal

pub returns-clause-pages : goal.returns-clause-pages
returns-clause-pages c = page_id-is

pub returns-clause-revisions : goal.returns-clause-revisions
returns-clause-revisions c = rev_id-is
