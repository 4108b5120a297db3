-- What the lines of the code stand for.
use Rattle.std.specs.Prelude.{[], true}
use Rattle.wk_request_rules.specs.Reading.{requested}
use Rattle.wk_script_rules.specs.ScriptLines as rule
use Rattle.wk_script_lines.specs.declared.line.ScriptLine.{ScriptLine}
use Rattle.wk_script_lines.specs.declared.line.ScriptLine.TheVariants.{Empty, TooLong, Api, Claim, Read, Finish, GiveBack, Fan, Restart, Unknown}

-- a request's query counts as posted
abbrev pub line_meant : ScriptLine → rule.ScriptLine
line_meant Empty = rule.empty_line
line_meant TooLong = rule.long_line
line_meant (Api query) = rule.api_line (requested query.now [] true)
line_meant Claim = rule.claim_line
line_meant (Read ticket) = rule.read_line ticket
line_meant (Finish ticket) = rule.finish_line ticket
line_meant (GiveBack ticket) = rule.giveback_line ticket
line_meant Fan = rule.fan_line
line_meant Restart = rule.restart_line
line_meant Unknown = rule.unknown_line
