use Rattle.std.proofs.Common.{◌≡◌, ◌++◌, flat_map, map, string_bytes, take}
use Rattle.wk_report_rules.specs.Texts.{line_text}
use Rattle.wk_report_lines.specs.Lines.{line_of}
use Rattle.wk_report_lines.proofs.text.push_lines.Given as goal

abbrev pub invariant-lines : goal.invariant-lines
invariant-lines l = string_bytes l.text ≡ string_bytes l.initial.text ++ flat_map line_text (map line_of (take l.line-index l.lines))
