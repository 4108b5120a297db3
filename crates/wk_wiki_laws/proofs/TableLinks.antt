-- The link tables of a state are good where each page's stored link rows are.
use Rattle.std.proofs.Common.{◌≡◌, ℕ, suc, ◌+◌, ◌-◌, ◌≤◌, ◌<◌, pos, Bool, true, false, eqb, ltb, ◌&&◌, List, [], ◌∷◌, length, map, flat_map, unwrap_or, refl, inl, inr, subst, arith}
use Rattle.std.specs.Prelude.{slice_get, option_map, find}
use Rattle.std.specs.List.{AllByRecursion, list_all, list_any, enumerate_from}
use Rattle.std.specs.Option.{option_to_list}
use Rattle.std.specs.Ordering.{int_eq}
use Rattle.std.proofs.lemmas.Bool.{cases_Bool, eqb-true, eqb-false, ne_eqb, lt-ltb}
use Rattle.wk_text_rules.specs.Titles.{PageTitle, is_normal, is_page_title}
use Rattle.wk_page_rules.specs.History.{History, Page}
use Rattle.wk_table_rules.specs.Rows.{StoreTables, PageColumns, LinkColumns, CategoryColumns, RedirectColumns, category_title}
use Rattle.wk_page_rules.specs.PageRows.{PageRows, no_rows}
use Rattle.wk_table_rules.specs.Changes.{has_page, namespace_of, link_row, category_row, redirect_row}
use Rattle.wk_table_rules.specs.GoodStore.{row_lt, is_good_link, is_good_category, is_good_redirect}
use Rattle.wk_table_laws.specs.EachGood.{EachGood}
use Rattle.wk_table_laws.specs.Premises.{is_next_title, is_next_member}
use Rattle.wk_table_laws.proofs.Pairs.{each-append, each-weaker, Cross, Pairs-append, Passes, Passes-from_good, EachGood-from_passes}
use Rattle.wk_table_laws.proofs.Links.{row_lt-lower, GoodAfter-map, link-good, category-good, redirect-good, own-page}
use Rattle.wk_wiki_rules.specs.States.{State, title_at}
use Rattle.wk_wiki_rules.specs.Tables.{tables_of, page_row, link_rows, rows_of_pages}
use Rattle.wk_wiki_laws.specs.Kept.{AreGoodRows}

pub AreGoodRows-none : AreGoodRows no_rows
AreGoodRows-none = record { templates = tt; exists = tt; links = tt; members = tt; categories = tt; redirect = tt }

-- ---- the page table

there-from : (h : History) (a : ℕ) (pages : List Page) (number : ℕ) → a ≤ number → number < a + length pages → list_any (λ (row : PageColumns). eqb row.page_id number) (map (page_row h) (enumerate_from a pages)) ≡ true
there-from h a [] number from below = absurd (omega (arith, from, below))
there-from h a (page ∷ pages) number from below = elim (cases_Bool (eqb a number)) [
  | inl same ↦ rw same refl
  | inr other ↦ rw other (let apart = eqb-false a number other in there-from h (a + 1) pages number (omega (arith, apart, from)) (omega (arith, below)))
]

pub page-there : (state : State) (number : ℕ) → 1 ≤ number → number ≤ length state.history.pages → has_page (tables_of state) number ≡ true
page-there state number from to = there-from state.history 1 state.history.pages number from (omega (arith, to))

no_title : PageTitle
no_title = record { ns = pos 0; key = [] }

named-from : (h : History) (a : ℕ) (pages : List Page) (number : ℕ) → a ≤ number → unwrap_or (option_map (λ (row : PageColumns). row.page_title.ns) (find (λ (row : PageColumns). eqb row.page_id number) (map (page_row h) (enumerate_from a pages)))) (pos 0)
    ≡ (unwrap_or (option_map (λ (page : Page). page.title) (slice_get pages (number - a))) (record { ns = pos 0; key = [] })).ns
named-from h a [] number from = refl
named-from h a (page ∷ pages) number from = elim (cases_Bool (eqb a number)) [
  | inl same ↦ let none : number - a ≡ 0 = (let e = eqb-true a number same in omega (arith, e)) in rw (same, none) refl
  | inr other ↦
      let apart = eqb-false a number other in
      let one : number - a ≡ suc (number - (a + 1)) = omega (arith, apart, from) in
      rw (other, one) (named-from h (a + 1) pages number (omega (arith, apart, from)))
]

pub namespace-is : (state : State) (number : ℕ) → 1 ≤ number → namespace_of (tables_of state) number ≡ (title_at state.history number).ns
namespace-is state number from =
    let positive : eqb number 0 ≡ false = ne_eqb number 0 (λ none. omega (arith, none, from)) in
    rw positive (named-from state.history 1 state.history.pages number from)

-- ---- the rows of all pages

-- each page's rows are good, and are its own
pub Good : {Row : Type 0} (is_good : List Row → Row → Bool) (from : Row → ℕ) (rows_of : ℕ → PageRows → List Row) → ℕ → List PageRows → Type 0
Good is_good from rows_of a [] = Unit {0}
Good is_good from rows_of a (links ∷ stored) = (EachGood is_good (rows_of a links) × AllByRecursion (λ row. from row ≡ a) (rows_of a links)) × Good is_good from rows_of (a + 1) stored

module _ {Row : Type 0} (R : Row → Row → Bool) (P : Row → Bool) (is_good : List Row → Row → Bool) (splits : (before : List Row) (row : Row) → is_good before row ≡ (P row && list_all (λ earlier. R earlier row) before))
    (from : Row → ℕ) (lower : (earlier row : Row) → from earlier < from row → R earlier row ≡ true) (rows_of : ℕ → PageRows → List Row) where
  abbrev rows_from : ℕ → List PageRows → List Row
  rows_from a stored = flat_map (λ page. rows_of page.0 page.1) (enumerate_from a stored)

  from-at_least : (a : ℕ) (stored : List PageRows) → Good is_good from rows_of a stored → AllByRecursion (λ row. a ≤ from row) (rows_from a stored)
  unfolding Good
  from-at_least a [] good = tt
  from-at_least a (links ∷ stored) good =
      each-append (λ row. a ≤ from row) (rows_of a links) (rows_from (a + 1) stored)
      (each-weaker (λ row. from row ≡ a) (λ row. a ≤ from row) (λ row same. omega (arith, same)) (rows_of a links) good.0.1)
      (each-weaker (λ row. a + 1 ≤ from row) (λ row. a ≤ from row) (λ row far. omega (arith, far)) (rows_from (a + 1) stored) (from-at_least (a + 1) stored good.1))

  across : (a : ℕ) (xs ys : List Row) → AllByRecursion (λ row. from row ≡ a) xs → AllByRecursion (λ row. a + 1 ≤ from row) ys → Cross R xs ys
  across a [] ys own far = tt
  across a (x ∷ xs) ys own far = (
    each-weaker (λ row. a + 1 ≤ from row) (λ row. R x row ≡ true) (λ row above. lower x row (let same = own.0 in omega (arith, above, same))) ys far,
    across a xs ys own.1 far,
  )

  passes : (a : ℕ) (stored : List PageRows) → Good is_good from rows_of a stored → Passes R P is_good splits (rows_from a stored)
  unfolding Good
  passes a [] good = record { alone = tt; paired = tt }
  passes a (links ∷ stored) good =
      let first = Passes-from_good R P is_good splits (rows_of a links) good.0.0 in
      let later = passes (a + 1) stored good.1 in
      record {
        alone = each-append (λ row. P row ≡ true) (rows_of a links) (rows_from (a + 1) stored) first.alone later.alone;
        paired = Pairs-append R (rows_of a links) (rows_from (a + 1) stored) first.paired later.paired
            (across a (rows_of a links) (rows_from (a + 1) stored) good.0.1 (from-at_least (a + 1) stored good.1));
      }

  pub each-page : (stored : List PageRows) → Good is_good from rows_of 1 stored → EachGood is_good (rows_of_pages rows_of stored)
  each-page stored good = EachGood-from_passes R P is_good splits (rows_from 1 stored) (passes 1 stored good)

-- ---- the link tables of a state

module _ (state : State) where
  abbrev tables : StoreTables
  tables = tables_of state

  abbrev pages : ℕ
  pages = length state.history.pages

  link-page : (number : ℕ) (titles : List PageTitle) → 1 ≤ number → number ≤ pages → EachGood is_next_title titles → EachGood (is_good_link tables) (map (link_row number (title_at state.history number).ns) titles)
  link-page number titles low high good =
      let there = page-there state number low high in
      subst (λ ns. EachGood (is_good_link tables) (map (link_row number ns) titles)) (namespace-is state number low)
      (GoodAfter-map (link_row number (namespace_of tables number)) is_next_title (is_good_link tables) (link-good tables number there) [] titles good)

  links-from : (titles : PageRows → List PageTitle) → ((links : PageRows) → AreGoodRows links → EachGood is_next_title (titles links)) → (a : ℕ) (stored : List PageRows) → 1 ≤ a → a + length stored ≤ pages + 1 → AllByRecursion AreGoodRows stored
      → Good (is_good_link tables) (λ (row : LinkColumns). row.from) (link_rows state.history titles) a stored
  unfolding Good
  links-from titles each a [] low high good = tt
  links-from titles each a (links ∷ stored) low high good = (
    (
      link-page a (titles links) low (omega (arith, high)) (each links good.0),
      own-page tables a (page-there state a low (omega (arith, high))) (λ (row : LinkColumns). row.from) (link_row a (title_at state.history a).ns) (λ title. refl) (titles links),
    ),
    links-from titles each (a + 1) stored (omega (arith, low)) (omega (arith, high)) good.1,
  )

  pub links-good : (titles : PageRows → List PageTitle) → ((links : PageRows) → AreGoodRows links → EachGood is_next_title (titles links)) → length state.stored ≡ pages → AllByRecursion AreGoodRows state.stored
      → EachGood (is_good_link tables) (rows_of_pages (link_rows state.history titles) state.stored)
  links-good titles each same good =
      each-page (λ (earlier row : LinkColumns). row_lt earlier.from earlier.target row.from row.target)
      (λ row. (has_page tables row.from && int_eq row.from_namespace (namespace_of tables row.from)) && is_page_title row.target)
      (is_good_link tables) (λ before row. refl)
      (λ row. row.from) (λ earlier row. row_lt-lower earlier.from earlier.target row.from row.target)
      (link_rows state.history titles) state.stored (links-from titles each 1 state.stored (omega arith) (omega (arith, same)) good)

  categories-from : (a : ℕ) (stored : List PageRows) → 1 ≤ a → a + length stored ≤ pages + 1 → AllByRecursion AreGoodRows stored
      → Good (is_good_category tables) (λ (row : CategoryColumns). row.cl_from) (λ page links. map (category_row page) links.members) a stored
  unfolding Good
  categories-from a [] low high good = tt
  categories-from a (links ∷ stored) low high good =
      let there = page-there state a low (omega (arith, high)) in (
        (
          GoodAfter-map (category_row a) is_next_member (is_good_category tables) (category-good tables a there) [] links.members (good.0).members,
          own-page tables a there (λ (row : CategoryColumns). row.cl_from) (category_row a) (λ member. refl) links.members,
        ),
        categories-from (a + 1) stored (omega (arith, low)) (omega (arith, high)) good.1,
      )

  pub categories-good : length state.stored ≡ pages → AllByRecursion AreGoodRows state.stored → EachGood (is_good_category tables) (tables_of state).categorylinks
  categories-good same good =
      each-page (λ (earlier row : CategoryColumns). row_lt earlier.cl_from (category_title earlier.cl_to) row.cl_from (category_title row.cl_to))
      (λ row. has_page tables row.cl_from && is_normal (category_title row.cl_to))
      (is_good_category tables) (λ before row. refl)
      (λ row. row.cl_from) (λ earlier row. row_lt-lower earlier.cl_from (category_title earlier.cl_to) row.cl_from (category_title row.cl_to))
      (λ page links. map (category_row page) links.members) state.stored (categories-from 1 state.stored (omega arith) (omega (arith, same)) good)

  redirects-from : (a : ℕ) (stored : List PageRows) → 1 ≤ a → a + length stored ≤ pages + 1 → AllByRecursion AreGoodRows stored
      → Good (is_good_redirect tables) (λ (row : RedirectColumns). row.rd_from) (λ page links. map (redirect_row page) (option_to_list links.redirect)) a stored
  unfolding Good
  redirects-from a [] low high good = tt
  redirects-from a (links ∷ stored) low high good =
      let there = page-there state a low (omega (arith, high)) in (
        (
          redirect-good tables a there links.redirect (good.0).redirect,
          own-page tables a there (λ (row : RedirectColumns). row.rd_from) (redirect_row a) (λ title. refl) (option_to_list links.redirect),
        ),
        redirects-from (a + 1) stored (omega (arith, low)) (omega (arith, high)) good.1,
      )

  pub redirects-good : length state.stored ≡ pages → AllByRecursion AreGoodRows state.stored → EachGood (is_good_redirect tables) (tables_of state).redirects
  redirects-good same good =
      each-page (λ (earlier row : RedirectColumns). ltb earlier.rd_from row.rd_from)
      (λ row. has_page tables row.rd_from && is_page_title row.rd_title)
      (is_good_redirect tables) (λ before row. refl)
      (λ row. row.rd_from) (λ earlier row under. lt-ltb earlier.rd_from row.rd_from under)
      (λ page links. map (redirect_row page) (option_to_list links.redirect)) state.stored (redirects-from 1 state.stored (omega arith) (omega (arith, same)) good)
