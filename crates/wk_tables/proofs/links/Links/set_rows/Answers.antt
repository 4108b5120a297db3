use Rattle.std.proofs.Common.{◌≡◌, ◌∙◌, ◌≤◌, to_z, of_z, w64, length, map, ap, rules, arith}
use Rattle.std.specs.Option.{option_to_list}
use Rattle.std.proofs.lemmas.List.{length-map}
use Rattle.wk_table_rules.specs.Changes.{category_row, link_row, redirect_row, with_rows_of}
use Rattle.wk_table_rows.specs.Members.{member_of}
use Rattle.wk_tables.specs.LinkLists.{rows_of_lists, with_rows_of_page}
use Rattle.wk_tables.specs.Links.{lists_of}
use Rattle.wk_tables.proofs.PageLaws.{at-most-one, map-both, same-lists}
use Rattle.wk_tables.proofs.links.Links.set_rows.Goals as goal

pub returns-clause-rows : goal.returns-clause-rows
returns-clause-rows c =
    let same : to_z w64 (of_z w64 c.args.namespace) ≡ c.args.namespace = search rules in
    same-lists _ _
    (c.set.ensures.rows ∙ ap (λ n. with_rows_of (λ row. row.from) c.args.page c.args.self.now.pagelinks.rows (map (link_row c.args.page n) c.rows.inside.links.items)) same)
    (c.set-2.ensures.rows ∙ ap (λ n. with_rows_of (λ row. row.from) c.args.page c.args.self.now.templatelinks.rows (map (link_row c.args.page n) c.rows.inside.templates.items)) same)
    (c.set-3.ensures.rows ∙ ap (λ n. with_rows_of (λ row. row.from) c.args.page c.args.self.now.existlinks.rows (map (link_row c.args.page n) c.rows.inside.exists.items)) same)
    (c.set-4.ensures.rows ∙ ap (with_rows_of (λ row. row.cl_from) c.args.page c.args.self.now.categorylinks.rows) (map-both (category_row c.args.page) member_of c.rows.inside.members.items))
    (c.set-5.ensures.rows ∙ ap (λ titles. with_rows_of (λ row. row.rd_from) c.args.page c.args.self.now.redirects.rows (map (redirect_row c.args.page) titles)) c.items_of_title-redirect.ensures)
    ∙ ap (λ rows. with_rows_of_page (lists_of c.args.self.now) c.args.page (rows_of_lists c.args.page c.args.namespace rows)) c.rows.view_is

pub returns-clause-kept : goal.returns-clause-kept
returns-clause-kept c n m le have =
    let links = ap (λ r. length r.links) c.rows.view_is in
    let templates = ap (λ r. length r.templates) c.rows.view_is in
    let exists = ap (λ r. length r.exists) c.rows.view_is in
    let members = length-map c.rows.inside.members.items member_of in
    let all_members = ap (λ r. length r.members) c.rows.view_is in
    let redirect = ap length c.items_of_title-redirect.ensures in
    let one : length (option_to_list c.rows.inside.redirect) ≤ 1 = at-most-one c.rows.inside.redirect in (
      omega (arith, le, have.0, c.set.ensures.spare, links),
      omega (arith, le, have.1, c.set-2.ensures.spare, templates),
      omega (arith, le, have.2, c.set-3.ensures.spare, exists),
      omega (arith, le, have.3, c.set-4.ensures.spare, members, all_members),
      omega (arith, le, have.4, c.set-5.ensures.spare, redirect, one),
    )
