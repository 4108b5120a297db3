use Rattle.std.specs.HashSet.{contains}
use Rattle.wk_text_rules.specs.Titles.{title_eq}
use Rattle.wk_report_rules.specs.Pages.{stored_pages}
use Rattle.wk_reports.proofs.Found.{named-page, named-whole}
use Rattle.wk_reports.proofs.articles.named_elsewhere.Goals as goal

pub pages-preserved : goal.pages-preserved
pages-preserved c = λ other.
    named-page (stored_pages c.args.live.now.state) c.pages.place _ other _ c.titles_in.result.now c.titles_in-in-pages.result.now
    (contains title_eq c.pages.named other) (contains title_eq c.name_titles.new.named other) (contains title_eq c.name_titles-in-pages.new.named other)
    c.page_at.ensures c.titles_in.ensures c.titles_in-in-pages.ensures (c.pages.invariant other) (c.in_ok-name_titles.ensures other) (c.in_ok-name_titles-2.ensures other)

pub returns : goal.returns
returns c = λ other.
    named-whole (stored_pages c.args.live.now.state) c.pages.place c.page_count-count.result other (contains title_eq c.pages.named other)
    (c.pages.invariant other) c.page_count-count.ensures c.pages-test.false
