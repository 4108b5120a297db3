use Rattle.std.proofs.Common.{rules}
use Rattle.wk_script_rules.specs.ScriptLines.{script_line}
use Rattle.wk_script_lines.proofs.line.script_line.Goals as goal

pub returns-in-TooLong : goal.returns-in-TooLong
unfolding script_line
returns-in-TooLong c = search rules
