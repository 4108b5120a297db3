use Rattle.std.proofs.Common.{◌∙◌, ◌<◌, refl, sym, subst}
use Rattle.std.specs.Prelude.{IfSome}
use Rattle.std.specs.List.{All}
use Rattle.wk_table_rows.specs.Rising.{IsRising}
use Rattle.wk_tables.specs.Links.{EachPages, pages_of}
use Rattle.wk_tables.proofs.PageLaws.{EachPages-above, EachPages-renewed, rises-added, rises-renewed}
use Rattle.wk_tables.proofs.tables.put_page.Goals as goal

pub returns-in-Some-clause-by_page : goal.returns-in-Some-clause-by_page
returns-in-Some-clause-by_page c = EachPages-renewed (pages_of c.args.links.now) c.args.pages.now.items c.in-Some.place c.args.row (sym c.in-Some.is ∙ c.requires.place) c.requires.by_page

pub returns-in-Some-clause-rising : goal.returns-in-Some-clause-rising
returns-in-Some-clause-rising c rising = rises-renewed c.args.pages.now.items c.in-Some.place c.args.row (sym c.in-Some.is ∙ c.requires.place) rising

pub add_page-requires-clause-above : goal.add_page-requires-clause-above
add_page-requires-clause-above c =
    let above = c.requires.above c.in-None.is in
    subst (λ r. EachPages (λ o. IfSome o (All (λ earlier. earlier < r.page_id))) (pages_of c.args.links.now)) (sym c.row.view_is)
    (EachPages-above c.args.pages.now.items (pages_of c.args.links.now) c.args.row.page_id c.requires.by_page above)

pub returns-in-None-clause-rising : goal.returns-in-None-clause-rising
returns-in-None-clause-rising c rising =
    let above = c.requires.above c.in-None.is in
    subst (IsRising (λ p. p.page_id)) (sym c.push_reserved.ensures.items) (rises-added c.args.pages.now.items c.args.row above rising)
