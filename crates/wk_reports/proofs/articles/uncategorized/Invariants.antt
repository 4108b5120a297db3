use Rattle.std.proofs.Common.{◌≡◌, map, take}
use Rattle.wk_wiki_rules.specs.States.{world_of}
use Rattle.wk_report_rules.specs.Pages.{stored_pages}
use Rattle.wk_report_rules.specs.Reports.{is_uncategorized}
use Rattle.wk_report_lines.specs.Lines.{line_of}
use Rattle.wk_reports.proofs.Found.{lines_of}
use Rattle.wk_reports.proofs.articles.uncategorized.Given as goal

abbrev pub invariant-pages : goal.invariant-pages
invariant-pages l = map line_of l.found.items ≡ lines_of (is_uncategorized (world_of l.live.state)) (take l.place (stored_pages l.live.state))
