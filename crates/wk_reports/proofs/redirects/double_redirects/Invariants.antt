use Rattle.std.proofs.Common.{◌≡◌, map, take}
use Rattle.wk_report_rules.specs.Pages.{stored_pages}
use Rattle.wk_report_lines.specs.Lines.{line_of}
use Rattle.wk_reports.proofs.Found.{doubles_of}
use Rattle.wk_reports.proofs.redirects.double_redirects.Given as goal

abbrev pub invariant-pages : goal.invariant-pages
invariant-pages l = map line_of l.found.items ≡ doubles_of (stored_pages l.live.state) (take l.place (stored_pages l.live.state))
