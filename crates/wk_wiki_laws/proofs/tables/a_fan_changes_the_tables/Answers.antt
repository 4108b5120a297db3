use Rattle.wk_wiki_laws.proofs.ChangesMade.{fan-step}
use Rattle.wk_wiki_laws.proofs.tables.a_fan_changes_the_tables.Goals as goal

pub returns : goal.returns
returns c = fan-step
