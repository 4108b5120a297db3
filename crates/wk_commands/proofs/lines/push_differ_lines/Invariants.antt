use Rattle.std.proofs.Common.{◌≡◌, ◌++◌, flat_map, string_bytes, take}
use Rattle.wk_tool_rules.specs.Checks.{differ_line}
use Rattle.wk_commands.proofs.lines.push_differ_lines.Given as goal

abbrev pub invariant-loop-title : goal.invariant-loop-title
invariant-loop-title l = string_bytes l.text ≡ string_bytes l.initial.text ++ flat_map differ_line (take l.title-index l.titles)
