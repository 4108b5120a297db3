use Rattle.std.proofs.Common.{◌<◌, length, arith}
use Rattle.wk_report_rules.specs.Pages.{stored_pages}
use Rattle.wk_reports.proofs.Found.{tally-next, tally-small, tally-whole}
use Rattle.wk_reports.proofs.counted.tally_pages.Goals as goal

pub count_titles-requires : goal.count_titles-requires
count_titles-requires c =
    let whole = c.page_count-count.ensures in
    let test = c.pages-test.true in
    let within : c.pages.place < length (stored_pages c.args.live.now.state) = omega (arith, whole, test) in
    tally-small c.args.counted c.args.live.now.state c.pages.place c.pages.tally.entries c.requires within c.pages.invariant

pub pages-preserved : goal.pages-preserved
pages-preserved c =
    tally-next c.args.counted (stored_pages c.args.live.now.state) c.pages.place _ _ c.titles_in.result.now c.pages.tally.entries c.count_titles.new.tally.entries
    c.page_at.ensures c.titles_in.ensures c.pages.invariant c.in_ok-count_titles.ensures

pub returns : goal.returns
returns c =
    tally-whole c.args.counted (stored_pages c.args.live.now.state) c.pages.place c.page_count-count.result c.pages.tally.entries
    c.pages.invariant c.page_count-count.ensures c.pages-test.false
