use Rattle.wk_wiki_laws.proofs.ChangesMade.{refresh-step, refresh-step-same}
use Rattle.wk_wiki_laws.proofs.tables.a_refresh_changes_the_tables.Goals as goal

pub returns-clause-with_rows : goal.returns-clause-with_rows
returns-clause-with_rows c = refresh-step

pub returns-clause-without_rows : goal.returns-clause-without_rows
returns-clause-without_rows c = refresh-step-same
