use Rattle.std.proofs.Common.{◌≡◌, map, take}
use Rattle.wk_wiki_rules.specs.States.{world_of}
use Rattle.wk_report_lines.specs.Lines.{line_of}
use Rattle.wk_reports.proofs.Found.{entry_lines}
use Rattle.wk_reports.proofs.counted.listed_lines.Given as goal

abbrev pub invariant-titles : goal.invariant-titles
invariant-titles l = map line_of l.found.items ≡ entry_lines l.counted (world_of l.live.state) (take l.place l.tally.entries)
