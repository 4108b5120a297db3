use Rattle.std.proofs.Common.{◌≡◌, take}
use Rattle.std.specs.HashSet.{contains}
use Rattle.wk_text_rules.specs.Titles.{PageTitle, title_eq}
use Rattle.wk_report_rules.specs.Pages.{stored_pages}
use Rattle.wk_report_rules.specs.Reports.{is_named_elsewhere}
use Rattle.wk_reports.proofs.articles.named_elsewhere.Given as goal

abbrev pub invariant-pages : goal.invariant-pages
invariant-pages l = (title : PageTitle) → contains title_eq l.named title ≡ is_named_elsewhere (take l.place (stored_pages l.live.state)) title
