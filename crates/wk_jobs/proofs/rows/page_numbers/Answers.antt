use Rattle.std.proofs.Common.{◌≡◌, ◌+◌, cond, Some, refl, sym, ap, ◌∙◌, arith, rules, to_z, of_z, w64}
use Rattle.std.specs.HashMap.{get}
use Rattle.wk_text_rules.specs.Titles.{PageTitle, title_eq}
use Rattle.wk_jobs.proofs.Loaded.{number-more, page_id-fits, read-at}
use Rattle.wk_jobs.proofs.rows.page_numbers.Goals as goal

pub overflow_cast-row-inside : goal.overflow_cast-row-inside
overflow_cast-row-inside c =
    let rows = c.args.rows.now in
    let there = read-at rows rows c.rows.row-index c.row-item.result refl c.rows-test.true c.row-item.is in
    let fits = page_id-fits rows c.rows.row-index c.row-item.result c.requires.ids there in
    let same : c.row.inside.page_id ≡ c.row-item.result.page_id = ap (λ row. row.page_id) c.row.view_is in
    omega (arith, fits.1, same)

pub rows-preserved : goal.rows-preserved
rows-preserved c = λ title.
    let rows = c.args.rows.now in
    let row = c.row-item.result in
    let i = c.rows.row-index in
    let there = read-at rows rows i row refl c.rows-test.true c.row-item.is in
    let wide : to_z w64 (of_z w64 c.row.inside.page_namespace) ≡ c.row.inside.page_namespace = search rules in
    let named : c.in_ok-title.title ≡ row.page_title =
    c.in_ok-title.ensures ∙ ap (λ n. record { ns = n; key = c.row.inside.page_title }) wide ∙ ap (λ r. r.page_title) c.row.view_is in
    let number : c.row.inside.page_id ≡ i + 1 = ap (λ r. r.page_id) c.row.view_is ∙ (page_id-fits rows i row c.requires.ids there).0 in
    c.in_ok-insert.ensures.updates.0 title
    ∙ ap (λ (t : PageTitle). cond (title_eq t title) (Some c.row.inside.page_id) (get title_eq c.rows.numbers title)) named
    ∙ ap (λ n. cond (title_eq row.page_title title) (Some n) (get title_eq c.rows.numbers title)) number
    ∙ ap (cond (title_eq row.page_title title) (Some (i + 1))) (c.rows.invariant title)
    ∙ sym (number-more rows i row c.requires.titles there title)
