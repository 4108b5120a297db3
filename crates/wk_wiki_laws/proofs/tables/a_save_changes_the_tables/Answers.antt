use Rattle.wk_wiki_laws.proofs.ChangesMade.{save-step}
use Rattle.wk_wiki_laws.proofs.tables.a_save_changes_the_tables.Goals as goal

pub returns : goal.returns
returns c = save-step
