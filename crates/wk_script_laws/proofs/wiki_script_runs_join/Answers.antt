use Rattle.wk_script_laws.proofs.Runs.{join}
use Rattle.wk_script_laws.proofs.wiki_script_runs_join.Goals as goal

pub returns : goal.returns
returns c = join
