use Rattle.wk_wiki_laws.proofs.ChangesMade.{claim-step, back-step, reopened-tables}
use Rattle.wk_wiki_laws.proofs.tables.claims_and_returns_change_no_table.Goals as goal

pub returns-clause-claimed : goal.returns-clause-claimed
returns-clause-claimed c = claim-step

pub returns-clause-given_back : goal.returns-clause-given_back
returns-clause-given_back c = back-step

pub returns-clause-reopened : goal.returns-clause-reopened
returns-clause-reopened c = reopened-tables
