-- The link tables stay good where the rows of a page are replaced.
use Rattle.std.proofs.Common.{◌≡◌, ℕ, ◌<◌, ◌≤◌, ℤ, pos, negsuc, Bool, true, false, eqb, ltb, ◌&&◌, List, [], ◌∷◌, ◌++◌, map, Option, Some, None, refl, ◌∙◌, inl, inr, arith}
use Rattle.std.specs.List.{AllByRecursion, list_all}
use Rattle.std.specs.Option.{option_to_list, IfSome}
use Rattle.std.specs.Ordering.{int_eq, is_lt, nat_cmp}
use Rattle.std.specs.declared.cmp.Ordering.TheVariants.{Less, Equal}
use Rattle.std.proofs.lemmas.Bool.{cases_Bool, and_parts, ltb-true, lt-ltb, le-ltb, eqb-true, eq-eqb, false≢true}
use Rattle.std.proofs.lemmas.List.{map-append}
use Rattle.std.proofs.lemmas.List.Folds.{list_all-map}
use Rattle.wk_text_rules.specs.Titles.{PageTitle, title_cmp, is_normal, is_page_title}
use Rattle.wk_table_rules.specs.Rows.{StoreTables, LinkColumns, CategoryColumns, RedirectColumns, category_title}
use Rattle.wk_page_rules.specs.PageRows.{Member, PageRows}
use Rattle.wk_table_rules.specs.Changes.{has_page, namespace_of, link_row, category_row, redirect_row, with_page_rows, with_rows_of}
use Rattle.wk_table_rules.specs.GoodStore.{row_lt, is_good_link, is_good_category, is_good_redirect}
use Rattle.wk_table_laws.specs.EachGood.{GoodAfter, EachGood, KeepsRules}
use Rattle.wk_table_laws.specs.Premises.{is_next_title, is_next_member, FitRows}
use Rattle.wk_table_laws.proofs.Pairs.{EachGood-with_rows_of}

-- ---- the order of rows

nat_cmp-less : (a b : ℕ) → a < b → nat_cmp a b ≡ Less
nat_cmp-less a b under = rw (lt-ltb a b under) refl

nat_cmp-same : (a : ℕ) → nat_cmp a a ≡ Equal
nat_cmp-same a = rw (le-ltb a a (omega arith), eq-eqb a a refl) refl

pub row_lt-rise : (a : ℕ) (t : PageTitle) (b : ℕ) (u : PageTitle) → row_lt a t b u ≡ true → a ≤ b
row_lt-rise a t b u before = elim (cases_Bool (ltb a b)) [
  | inl under ↦ let far : a < b = ltb-true a b under in omega arith
  | inr other ↦ elim (cases_Bool (eqb a b)) [
    | inl same ↦ let e : a ≡ b = eqb-true a b same in omega arith
    | inr apart ↦ let no : false ≡ true = rw (other, apart) at before in absurd (false≢true no)
  ]
]

pub row_lt-lower : (a : ℕ) (t : PageTitle) (b : ℕ) (u : PageTitle) → a < b → row_lt a t b u ≡ true
row_lt-lower a t b u under = rw (nat_cmp-less a b under) refl

pub row_lt-same : (page : ℕ) (t u : PageTitle) → row_lt page t page u ≡ is_lt (title_cmp t u)
row_lt-same page t u = rw (nat_cmp-same page) refl

-- ---- rows made of good items

pub GoodAfter-map : {A Row : Type 0} (f : A → Row) (g : List A → A → Bool) (h : List Row → Row → Bool) → ((before : List A) (x : A) → g before x ≡ true → h (map f before) (f x) ≡ true) → (before xs : List A) → GoodAfter g before xs → GoodAfter h (map f before) (map f xs)
GoodAfter-map f g h step before [] good = tt
GoodAfter-map f g h step before (x ∷ xs) good =
    (step before x good.0, rw (← map-append f before (x ∷ [])) (GoodAfter-map f g h step (before ++ x ∷ []) xs good.1))

int_lt-same : (n : ℕ) → ltb n n ≡ false
int_lt-same n = le-ltb n n (omega arith)

int_eq-same : (z : ℤ) → int_eq z z ≡ true
int_eq-same (pos n) = rw (int_lt-same n) refl
int_eq-same (negsuc n) = rw (int_lt-same n) refl

list_all-same : {X : Type 0} (p q : X → Bool) → ((x : X) → p x ≡ q x) → (xs : List X) → list_all p xs ≡ list_all q xs
list_all-same p q same [] = refl
list_all-same p q same (x ∷ xs) = rw (same x, list_all-same p q same xs) refl

module _ (tables : StoreTables) (page : ℕ) (there : has_page tables page ≡ true) where
  pub link-good : (before : List PageTitle) (title : PageTitle) → is_next_title before title ≡ true
      → is_good_link tables (map (link_row page (namespace_of tables page)) before) (link_row page (namespace_of tables page) title) ≡ true
  link-good before title next =
      let parts = and_parts (is_page_title title) (list_all (λ earlier. is_lt (title_cmp earlier title)) before) next in
      let behind : list_all (λ row. row_lt row.from row.target page title) (map (link_row page (namespace_of tables page)) before) ≡ true =
      list_all-map (λ row. row_lt row.from row.target page title) (link_row page (namespace_of tables page)) before
      ∙ (list_all-same (λ earlier. row_lt page earlier page title) (λ earlier. is_lt (title_cmp earlier title)) (λ earlier. row_lt-same page earlier title) before ∙ parts.1) in
      rw (there, int_eq-same (namespace_of tables page), parts.0) behind

  pub category-good : (before : List Member) (member : Member) → is_next_member before member ≡ true
      → is_good_category tables (map (category_row page) before) (category_row page member) ≡ true
  category-good before member next =
      let title = category_title member.category.key in
      let parts = and_parts (is_normal title) (list_all (λ earlier. is_lt (title_cmp (category_title earlier.category.key) title)) before) next in
      let behind : list_all (λ row. row_lt row.cl_from (category_title row.cl_to) page title) (map (category_row page) before) ≡ true =
      list_all-map (λ row. row_lt row.cl_from (category_title row.cl_to) page title) (category_row page) before
      ∙ (list_all-same (λ earlier. row_lt page (category_title earlier.category.key) page title) (λ earlier. is_lt (title_cmp (category_title earlier.category.key) title))
      (λ earlier. row_lt-same page (category_title earlier.category.key) title) before ∙ parts.1) in
      rw (there, parts.0) behind

  pub redirect-good : (redirect : Option PageTitle) → IfSome redirect (λ title. is_page_title title ≡ true) → EachGood (is_good_redirect tables) (map (redirect_row page) (option_to_list redirect))
  redirect-good None real = tt
  redirect-good (Some title) real = (rw (there, real) refl, tt)

  pub own-page : {A Row : Type 0} (from : Row → ℕ) (f : A → Row) → ((x : A) → from (f x) ≡ page) → (xs : List A) → AllByRecursion (λ row. from row ≡ page) (map f xs)
  own-page from f own [] = tt
  own-page from f own (x ∷ xs) = (own x, own-page from f own xs)

  links-good : (rows : List LinkColumns) (titles : List PageTitle) → EachGood (is_good_link tables) rows → EachGood is_next_title titles
      → EachGood (is_good_link tables) (with_rows_of (λ row. row.from) page rows (map (link_row page (namespace_of tables page)) titles))
  links-good rows titles good next =
      EachGood-with_rows_of (λ (earlier row : LinkColumns). row_lt earlier.from earlier.target row.from row.target)
      (λ row. (has_page tables row.from && int_eq row.from_namespace (namespace_of tables row.from)) && is_page_title row.target)
      (is_good_link tables) (λ before row. refl)
      (λ row. row.from) (λ earlier row. row_lt-rise earlier.from earlier.target row.from row.target) (λ earlier row. row_lt-lower earlier.from earlier.target row.from row.target) page
      rows (map (link_row page (namespace_of tables page)) titles) good
      (GoodAfter-map (link_row page (namespace_of tables page)) is_next_title (is_good_link tables) link-good [] titles next)
      (own-page (λ row. row.from) (link_row page (namespace_of tables page)) (λ title. refl) titles)

  categories-good : (rows : List CategoryColumns) (members : List Member) → EachGood (is_good_category tables) rows → EachGood is_next_member members
      → EachGood (is_good_category tables) (with_rows_of (λ row. row.cl_from) page rows (map (category_row page) members))
  categories-good rows members good next =
      EachGood-with_rows_of (λ (earlier row : CategoryColumns). row_lt earlier.cl_from (category_title earlier.cl_to) row.cl_from (category_title row.cl_to))
      (λ row. has_page tables row.cl_from && is_normal (category_title row.cl_to))
      (is_good_category tables) (λ before row. refl)
      (λ row. row.cl_from) (λ earlier row. row_lt-rise earlier.cl_from (category_title earlier.cl_to) row.cl_from (category_title row.cl_to))
      (λ earlier row. row_lt-lower earlier.cl_from (category_title earlier.cl_to) row.cl_from (category_title row.cl_to)) page
      rows (map (category_row page) members) good
      (GoodAfter-map (category_row page) is_next_member (is_good_category tables) category-good [] members next)
      (own-page (λ row. row.cl_from) (category_row page) (λ member. refl) members)

  redirects-good : (rows : List RedirectColumns) (redirect : Option PageTitle) → EachGood (is_good_redirect tables) rows → IfSome redirect (λ title. is_page_title title ≡ true)
      → EachGood (is_good_redirect tables) (with_rows_of (λ row. row.rd_from) page rows (map (redirect_row page) (option_to_list redirect)))
  redirects-good rows redirect good real =
      EachGood-with_rows_of (λ (earlier row : RedirectColumns). ltb earlier.rd_from row.rd_from)
      (λ row. has_page tables row.rd_from && is_page_title row.rd_title)
      (is_good_redirect tables) (λ before row. refl)
      (λ row. row.rd_from) (λ earlier row before. let under : earlier.rd_from < row.rd_from = ltb-true earlier.rd_from row.rd_from before in omega arith)
      (λ earlier row under. lt-ltb earlier.rd_from row.rd_from under) page
      rows (map (redirect_row page) (option_to_list redirect)) good
      (redirect-good redirect real)
      (own-page (λ row. row.rd_from) (redirect_row page) (λ title. refl) (option_to_list redirect))

-- the link rows of a page that is there are replaced
pub KeepsRules-set_rows : (tables : StoreTables) (page : ℕ) (links : PageRows) → FitRows tables page links → KeepsRules tables → KeepsRules (with_page_rows tables page links)
KeepsRules-set_rows tables page links fit keeps = record {
  ids = keeps.ids;
  titles = keeps.titles;
  revisions = keeps.revisions;
  parents = keeps.parents;
  latest = keeps.latest;
  pagelinks = links-good tables page fit.there tables.pagelinks links.links keeps.pagelinks fit.links;
  templatelinks = links-good tables page fit.there tables.templatelinks links.templates keeps.templatelinks fit.templates;
  existlinks = links-good tables page fit.there tables.existlinks links.exists keeps.existlinks fit.exists;
  categorylinks = categories-good tables page fit.there tables.categorylinks links.members keeps.categorylinks fit.members;
  redirects = redirects-good tables page fit.there tables.redirects links.redirect keeps.redirects fit.redirect;
  jobs = keeps.jobs;
  version = rw fit.version refl;
}
