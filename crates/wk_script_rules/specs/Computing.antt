-- `unfolding computing` lets `refl` compute the rules of this crate on lines and states that are written out.
use Rattle.wk_answer_rules.specs.Computing.{computing as answers}
use Rattle.wk_script_rules.specs.ScriptLines.{script_line}
use Rattle.wk_script_rules.specs.Steps.{line_step}
use Rattle.wk_script_rules.specs.Runs.{script_answers}

unfoldable pub computing : Unit {0}
unfolding answers script_line line_step script_answers
computing = tt
