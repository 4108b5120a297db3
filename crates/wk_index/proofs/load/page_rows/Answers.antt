use Rattle.std.proofs.Common.{◌≡◌, ◌∙◌, true, eqb, List, Option, map, ap, sym, subst}
use Rattle.std.specs.Prelude.{slice_get}
use Rattle.std.specs.Option.{option_map}
use Rattle.std.specs.List.{All, filter, list_any}
use Rattle.std.proofs.lemmas.List.Elements.{All-filter}
use Rattle.wk_text_rules.specs.Titles.{PageTitle, is_normal, title_eq}
use Rattle.wk_page_rules.specs.PageRows.{Member, PageRows}
use Rattle.wk_table_rules.specs.Rows.{category_title}
use Rattle.wk_table_rules.specs.Stored.{member_of, rows_of_page}
use Rattle.wk_table_rows.specs.Members.{member_of as member_of_triple}
use Rattle.wk_index.proofs.EntryLaws.{entries-of}
use Rattle.wk_index.proofs.OwnRows.{find-first}
use Rattle.wk_index.proofs.load.page_rows.Goals as goal

abbrev made : (templates exists links : List PageTitle) (members : List Member) (redirect : Option PageTitle) → PageRows
made templates exists links members redirect = record { templates = templates; exists = exists; links = links; members = members; redirect = redirect }

same-rows : {t t' e e' l l' : List PageTitle} {m m' : List Member} {r r' : Option PageTitle} → t ≡ t' → e ≡ e' → l ≡ l' → m ≡ m' → r ≡ r' → made t e l m r ≡ made t' e' l' m' r'
same-rows a b c d e = λ i. made (a i) (b i) (c i) (d i) (e i)

pub targets-requires-clause-normal : goal.targets-requires-clause-normal
targets-requires-clause-normal c =
    subst (All (λ row. is_normal row.target ≡ true)) (sym (c.own_rows-templates.ensures ∙ ap (filter (λ row. eqb row.from c.args.page)) (c.deref.ensures.value ∙ ap (λ t. t.templatelinks) c.tables.view_is)))
    (All-filter (λ row. eqb row.from c.args.page) (λ row. is_normal row.target ≡ true) c.args.tables.now.templatelinks c.requires.loadable.templates_normal)

pub targets-requires-2-clause-normal : goal.targets-requires-2-clause-normal
targets-requires-2-clause-normal c =
    subst (All (λ row. is_normal row.target ≡ true)) (sym (c.own_rows-exists.ensures ∙ ap (filter (λ row. eqb row.from c.args.page)) (c.deref-2.ensures.value ∙ ap (λ t. t.existlinks) c.tables.view_is)))
    (All-filter (λ row. eqb row.from c.args.page) (λ row. is_normal row.target ≡ true) c.args.tables.now.existlinks c.requires.loadable.exists_normal)

pub targets-requires-3-clause-normal : goal.targets-requires-3-clause-normal
targets-requires-3-clause-normal c =
    subst (All (λ row. is_normal row.target ≡ true)) (sym (c.own_rows-links.ensures ∙ ap (filter (λ row. eqb row.from c.args.page)) (c.deref-3.ensures.value ∙ ap (λ t. t.pagelinks) c.tables.view_is)))
    (All-filter (λ row. eqb row.from c.args.page) (λ row. is_normal row.target ≡ true) c.args.tables.now.pagelinks c.requires.loadable.links_normal)

pub members-requires : goal.members-requires
members-requires c =
    subst (All (λ row. is_normal (category_title row.cl_to) ≡ true)) (sym (c.own_rows.ensures ∙ ap (filter (λ row. eqb row.cl_from c.args.page)) (c.deref-4.ensures.value ∙ ap (λ t. t.categorylinks) c.tables.view_is)))
    (All-filter (λ row. eqb row.cl_from c.args.page) (λ row. is_normal (category_title row.cl_to) ≡ true) c.args.tables.now.categorylinks c.requires.loadable.categories_normal)

pub redirect-requires : goal.redirect-requires
redirect-requires c =
    subst (All (λ row. is_normal row.rd_title ≡ true)) (sym (c.own_rows-2.ensures ∙ ap (filter (λ row. eqb row.rd_from c.args.page)) (c.deref-5.ensures.value ∙ ap (λ t. t.redirects) c.tables.view_is)))
    (All-filter (λ row. eqb row.rd_from c.args.page) (λ row. is_normal row.rd_title ≡ true) c.args.tables.now.redirects c.requires.loadable.redirects_normal)

pub returns-clause-rows : goal.returns-clause-rows
returns-clause-rows c =
    same-rows
    (c.in_ok-templates.ensures.titles ∙ ap (map (λ row. row.target)) (c.own_rows-templates.ensures ∙ ap (filter (λ row. eqb row.from c.args.page)) (c.deref.ensures.value ∙ ap (λ t. t.templatelinks) c.tables.view_is)))
    (c.in_ok-exists.ensures.titles ∙ ap (map (λ row. row.target)) (c.own_rows-exists.ensures ∙ ap (filter (λ row. eqb row.from c.args.page)) (c.deref-2.ensures.value ∙ ap (λ t. t.existlinks) c.tables.view_is)))
    (c.in_ok-links.ensures.titles ∙ ap (map (λ row. row.target)) (c.own_rows-links.ensures ∙ ap (filter (λ row. eqb row.from c.args.page)) (c.deref-3.ensures.value ∙ ap (λ t. t.pagelinks) c.tables.view_is)))
    (c.in_ok-members.ensures ∙ ap (map member_of) (c.own_rows.ensures ∙ ap (filter (λ row. eqb row.cl_from c.args.page)) (c.deref-4.ensures.value ∙ ap (λ t. t.categorylinks) c.tables.view_is)))
    (c.in_ok-redirect.ensures
    ∙ ap (λ rows. option_map (λ row. row.rd_title) (slice_get rows 0)) (c.own_rows-2.ensures ∙ ap (filter (λ row. eqb row.rd_from c.args.page)) (c.deref-5.ensures.value ∙ ap (λ t. t.redirects) c.tables.view_is))
    ∙ sym (ap (option_map (λ row. row.rd_title)) (find-first (λ row. eqb row.rd_from c.args.page) c.args.tables.now.redirects)))

pub returns-clause-there : goal.returns-clause-there
returns-clause-there c = record {
  included = λ title there.
      c.in_ok-templates.ensures.there title
      (ap (list_any (title_eq title)) (c.in_ok-templates.ensures.titles ∙ ap (map (λ row. row.target)) (c.own_rows-templates.ensures ∙ ap (filter (λ row. eqb row.from c.args.page)) (c.deref.ensures.value ∙ ap (λ t. t.templatelinks) c.tables.view_is))) ∙ there);
  tested = λ title there.
      c.in_ok-exists.ensures.there title
      (ap (list_any (title_eq title)) (c.in_ok-exists.ensures.titles ∙ ap (map (λ row. row.target)) (c.own_rows-exists.ensures ∙ ap (filter (λ row. eqb row.from c.args.page)) (c.deref-2.ensures.value ∙ ap (λ t. t.existlinks) c.tables.view_is))) ∙ there);
  linked = λ title there.
      c.in_ok-links.ensures.there title
      (ap (list_any (title_eq title)) (c.in_ok-links.ensures.titles ∙ ap (map (λ row. row.target)) (c.own_rows-links.ensures ∙ ap (filter (λ row. eqb row.from c.args.page)) (c.deref-3.ensures.value ∙ ap (λ t. t.pagelinks) c.tables.view_is))) ∙ there);
  members = λ x there.
      c.in_ok-push_members.ensures.there x
      (sym (entries-of c.deref-6.result.now (rows_of_page c.args.tables.now c.args.page) x
      (sym (c.in_ok-members.ensures ∙ ap (map member_of) (c.own_rows.ensures ∙ ap (filter (λ row. eqb row.cl_from c.args.page)) (c.deref-4.ensures.value ∙ ap (λ t. t.categorylinks) c.tables.view_is)))
      ∙ ap (map member_of_triple) (sym c.deref-6.ensures.value)))
      ∙ there);
}
