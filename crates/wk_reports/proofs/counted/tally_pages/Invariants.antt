use Rattle.std.proofs.Common.{◌≡◌, [], take}
use Rattle.wk_report_rules.specs.Pages.{stored_pages}
use Rattle.wk_report_laws.specs.Tally.{tallied_all}
use Rattle.wk_reports.proofs.Found.{titles_of}
use Rattle.wk_reports.proofs.counted.tally_pages.Given as goal

abbrev pub invariant-pages : goal.invariant-pages
invariant-pages l = l.tally.entries ≡ tallied_all [] (titles_of l.counted (take l.place (stored_pages l.live.state)))
