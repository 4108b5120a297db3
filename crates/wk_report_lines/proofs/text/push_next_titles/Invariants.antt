use Rattle.std.proofs.Common.{◌≡◌, ◌++◌, flat_map, string_bytes, take}
use Rattle.wk_report_rules.specs.Texts.{next_title}
use Rattle.wk_report_lines.proofs.text.push_next_titles.Given as goal

abbrev pub invariant-loop-title : goal.invariant-loop-title
invariant-loop-title l = string_bytes l.text ≡ string_bytes l.initial.text ++ flat_map next_title (take l.title-index l.titles)
