use Rattle.std.proofs.Common.{true, refl}
use Rattle.wk_script_runs.proofs.Lives.{told-run}
use Rattle.wk_script_runs.proofs.told_lives_are_one_run.Goals as goal

pub returns : goal.returns
returns c = λ most s t lines moments replies lives. told-run true most s t lines moments replies refl lives
