use Rattle.std.proofs.Common.{map}
use Rattle.wk_report_rules.specs.Pages.{stored_pages}
use Rattle.wk_report_lines.specs.Lines.{line_of}
use Rattle.wk_reports.proofs.Found.{double-next, doubles-whole}
use Rattle.wk_reports.proofs.redirects.double_redirects.Goals as goal

pub pages-preserved : goal.pages-preserved
pages-preserved c =
    double-next (stored_pages c.args.live.now.state) c.pages.place _ _ (map line_of c.pages.found.items) (map line_of c.add_double.new.found.items)
    c.page_at.ensures c.pages.invariant c.in_ok-add_double.ensures

pub returns : goal.returns
returns c =
    doubles-whole (stored_pages c.args.live.now.state) c.pages.place c.page_count-count.result (map line_of c.pages.found.items)
    c.pages.invariant c.page_count-count.ensures c.pages-test.false
