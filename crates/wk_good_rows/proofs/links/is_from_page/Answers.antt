use Rattle.std.proofs.Common.{◌≡◌, ◌<◌, ◌+◌, true, eqb, length, get_or, to_z, of_z, w64, sym, ap, ◌∙◌, arith, rules}
use Rattle.std.specs.List.{list_any}
use Rattle.std.specs.Ordering.{int_eq}
use Rattle.wk_table_rules.specs.Changes.{has_page}
use Rattle.wk_good_rows.proofs.PageNumbers.{within-of, from-page-is}
use Rattle.wk_good_rows.proofs.Signed.{eq-signed}
use Rattle.wk_good_rows.proofs.links.is_from_page.Goals as goal

pages-len : (c : goal.After-len) → c.len.result ≡ length c.args.tables.now.pages
pages-len c = c.len.ensures ∙ sym c.deref.ensures.len ∙ ap length c.deref.ensures.value ∙ ap (λ t. length t.pages) c.tables.view_is

there : (c : goal.After-len) → has_page c.args.tables.now c.row.inside.from ≡ true
there c =
    sym (ap (λ t. has_page t c.row.inside.from) c.tables.view_is) ∙ ap (list_any (λ page. eqb page.page_id c.row.inside.from)) (sym c.deref.ensures.value)
    ∙ sym c.has_page.ensures ∙ c.if-not-has_page.false

within : (c : goal.After-len) → (0 < c.row.inside.from) × (c.row.inside.from < length c.args.tables.now.pages + 1)
within c = within-of c.args.tables.now.pages c.requires c.row.inside.from (there c)

pub page_place-place-requires-clause-there : goal.page_place-place-requires-clause-there
page_place-place-requires-clause-there c = (within c).0

pub page_place-place-requires-clause-within : goal.page_place-place-requires-clause-within
page_place-place-requires-clause-within c = omega (arith, (within c).1, pages-len c)

pub returns : goal.returns
returns c =
    let k = c.page_place-place.result in
    let page = c.index.result.now in
    let long = c.len.ensures ∙ sym c.deref.ensures.len ∙ ap length c.deref.ensures.value ∙ ap (λ t. length t.pages) c.tables.view_is in
    let has =
    sym (ap (λ t. has_page t c.row.inside.from) c.tables.view_is) ∙ ap (list_any (λ page. eqb page.page_id c.row.inside.from)) (sym c.deref.ensures.value)
    ∙ sym c.has_page.ensures ∙ c.if-not-has_page.false in
    let read : page ≡ get_or c.args.tables.now.pages k page = c.index.ensures ∙ ap (λ t. get_or t.pages k page) c.tables.view_is in
    let same : to_z w64 (of_z w64 c.row.inside.from_namespace) ≡ c.row.inside.from_namespace = search rules in
    let same' : to_z w64 (of_z w64 c.behind-tables.inside.page_namespace) ≡ c.behind-tables.inside.page_namespace = search rules in
    eq-signed c.row.inside.from_namespace c.behind-tables.inside.page_namespace same same'
    ∙ ap (λ r. int_eq r.from_namespace c.behind-tables.inside.page_namespace) c.row.view_is
    ∙ ap (λ p. int_eq c.args.row.now.from_namespace p.page_title.ns) c.behind-tables.view_is
    ∙ from-page-is c.args.tables.now c.requires c.args.row.now k page read (omega (arith, c.page_place-place.ensures.within, long))
    (c.page_place-place.ensures.place ∙ ap (λ r. r.from) c.row.view_is)
    (ap (λ r. has_page c.args.tables.now r.from) (sym c.row.view_is) ∙ has)
