use Rattle.std.proofs.Common.{map}
use Rattle.wk_wiki_rules.specs.States.{world_of}
use Rattle.wk_report_rules.specs.Pages.{stored_pages}
use Rattle.wk_report_rules.specs.Reports.{is_orphaned}
use Rattle.wk_report_lines.specs.Lines.{line_of}
use Rattle.wk_reports.proofs.Found.{line-next, lines-whole}
use Rattle.wk_reports.proofs.articles.orphaned.Goals as goal

pub pages-preserved : goal.pages-preserved
pages-preserved c =
    line-next (is_orphaned (world_of c.args.live.now.state) (stored_pages c.args.live.now.state)) (stored_pages c.args.live.now.state) c.pages.place _ _ c.is_orphaned.result (map line_of c.pages.found.items) (map line_of c.add_line.new.found.items)
    c.page_at.ensures c.is_orphaned.ensures c.pages.invariant c.in_ok-add_line.ensures

pub returns : goal.returns
returns c =
    lines-whole (is_orphaned (world_of c.args.live.now.state) (stored_pages c.args.live.now.state)) (stored_pages c.args.live.now.state) c.pages.place c.page_count-count.result (map line_of c.pages.found.items)
    c.pages.invariant c.page_count-count.ensures c.pages-test.false
