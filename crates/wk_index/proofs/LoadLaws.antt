-- The rows of each page can be taken out of the tables of a good store.
use Rattle.std.proofs.Common.{◌≡◌, ℕ, zero, suc, ◌+◌, ◌<◌, ◌≤◌, Bool, true, eqb, ltb, leb, not, ◌&&◌, List, [], ◌∷◌, ◌++◌, length, get_or, refl, arith}
use Rattle.std.specs.List.{AllByRecursion}
use Rattle.std.specs.List.Sorted.{IsNonDecreasingBy}
use Rattle.std.specs.Ordering.{int_eq}
use Rattle.std.proofs.lemmas.Bool.{and_parts, eqb-true, leb-true, ltb-true}
use Rattle.std.proofs.lemmas.List.{length-append}
use Rattle.std.proofs.lemmas.List.Elements.{All-from_recursion}
use Rattle.wk_text_rules.specs.Titles.{is_normal, is_virtual, is_page_title}
use Rattle.wk_page_rules.specs.Verdict.{max_pages}
use Rattle.wk_table_rules.specs.Rows.{StoreTables, PageColumns, LinkColumns, CategoryColumns, RedirectColumns, category_title}
use Rattle.wk_table_rules.specs.Changes.{has_page, namespace_of}
use Rattle.wk_table_rules.specs.GoodStore.{IsGood, row_lt, has_good_id, is_good_link, is_good_category, is_good_redirect}
use Rattle.wk_table_laws.specs.EachGood.{GoodAfter, EachGood}
use Rattle.wk_table_laws.proofs.FirstBad.{KeepsRules-from_good}
use Rattle.wk_table_laws.proofs.Pairs.{Pairs, Passes-from_good, each-weaker}
use Rattle.wk_table_laws.proofs.Links.{row_lt-rise}
use Rattle.wk_index.specs.Loadable.{AreLoadable}

-- rows of which each stands before those behind it by numbers that don't fall
in-order : {Row : Type 0} (number : Row → ℕ) (R : Row → Row → Bool) → ((a b : Row) → R a b ≡ true → number a ≤ number b) → (rows : List Row) → Pairs R rows → IsNonDecreasingBy number rows
in-order number R rise [] pairs i j d under within = absurd (omega arith)
in-order number R rise (x ∷ xs) pairs zero zero d under within = omega arith
in-order number R rise (x ∷ xs) pairs zero (suc j) d under within = rise x (get_or xs j d) (All-from_recursion (λ y. R x y ≡ true) xs pairs.0 j d (omega arith))
in-order number R rise (x ∷ xs) pairs (suc i) zero d under within = absurd (omega arith)
in-order number R rise (x ∷ xs) pairs (suc i) (suc j) d under within = in-order number R rise xs pairs.1 i j d (omega arith) (omega arith)

few : (before rows : List PageColumns) → GoodAfter has_good_id before rows → length before ≤ max_pages → length before + length rows ≤ max_pages
few before [] good within = omega arith
few before (row ∷ rows) good within =
    let parts = and_parts (eqb row.page_id (length before + 1)) (leb row.page_id max_pages) good.0 in
    let id : row.page_id ≡ length before + 1 = eqb-true row.page_id (length before + 1) parts.0 in
    let low : row.page_id ≤ max_pages = leb-true row.page_id max_pages parts.1 in
    let longer : length (before ++ row ∷ []) ≡ length before + 1 = length-append before (row ∷ []) in
    let later : length (before ++ row ∷ []) + length rows ≤ max_pages = few (before ++ row ∷ []) rows good.1 (omega arith) in
    omega arith

normal-part : (a b c : Bool) → ((a && b) && c) ≡ true → c ≡ true
normal-part a b c all = (and_parts (a && b) c all).1

module _ (tables : StoreTables) where
  links-normal : (rows : List LinkColumns) → EachGood (is_good_link tables) rows → AllByRecursion (λ row. is_normal row.target ≡ true) rows
  links-normal rows good =
      let passes = Passes-from_good (λ (earlier row : LinkColumns). row_lt earlier.from earlier.target row.from row.target)
      (λ row. (has_page tables row.from && int_eq row.from_namespace (namespace_of tables row.from)) && is_page_title row.target)
      (is_good_link tables) (λ before row. refl) rows good in
      each-weaker (λ (row : LinkColumns). ((has_page tables row.from && int_eq row.from_namespace (namespace_of tables row.from)) && is_page_title row.target) ≡ true)
      (λ row. is_normal row.target ≡ true)
      (λ row passed. (and_parts (is_normal row.target) (not (is_virtual row.target)) (normal-part (has_page tables row.from) (int_eq row.from_namespace (namespace_of tables row.from)) (is_page_title row.target) passed)).0)
      rows passes.alone

  links-in-order : (rows : List LinkColumns) → EachGood (is_good_link tables) rows → IsNonDecreasingBy (λ (row : LinkColumns). row.from) rows
  links-in-order rows good =
      let passes = Passes-from_good (λ (earlier row : LinkColumns). row_lt earlier.from earlier.target row.from row.target)
      (λ row. (has_page tables row.from && int_eq row.from_namespace (namespace_of tables row.from)) && is_page_title row.target)
      (is_good_link tables) (λ before row. refl) rows good in
      in-order (λ (row : LinkColumns). row.from) (λ (earlier row : LinkColumns). row_lt earlier.from earlier.target row.from row.target)
      (λ a b. row_lt-rise a.from a.target b.from b.target) rows passes.paired

  categories-normal : (rows : List CategoryColumns) → EachGood (is_good_category tables) rows → AllByRecursion (λ row. is_normal (category_title row.cl_to) ≡ true) rows
  categories-normal rows good =
      let passes = Passes-from_good (λ (earlier row : CategoryColumns). row_lt earlier.cl_from (category_title earlier.cl_to) row.cl_from (category_title row.cl_to))
      (λ row. has_page tables row.cl_from && is_normal (category_title row.cl_to))
      (is_good_category tables) (λ before row. refl) rows good in
      each-weaker (λ (row : CategoryColumns). (has_page tables row.cl_from && is_normal (category_title row.cl_to)) ≡ true) (λ row. is_normal (category_title row.cl_to) ≡ true)
      (λ row passed. (and_parts (has_page tables row.cl_from) (is_normal (category_title row.cl_to)) passed).1)
      rows passes.alone

  categories-in-order : (rows : List CategoryColumns) → EachGood (is_good_category tables) rows → IsNonDecreasingBy (λ (row : CategoryColumns). row.cl_from) rows
  categories-in-order rows good =
      let passes = Passes-from_good (λ (earlier row : CategoryColumns). row_lt earlier.cl_from (category_title earlier.cl_to) row.cl_from (category_title row.cl_to))
      (λ row. has_page tables row.cl_from && is_normal (category_title row.cl_to))
      (is_good_category tables) (λ before row. refl) rows good in
      in-order (λ (row : CategoryColumns). row.cl_from) (λ (earlier row : CategoryColumns). row_lt earlier.cl_from (category_title earlier.cl_to) row.cl_from (category_title row.cl_to))
      (λ a b. row_lt-rise a.cl_from (category_title a.cl_to) b.cl_from (category_title b.cl_to)) rows passes.paired

  redirects-normal : (rows : List RedirectColumns) → EachGood (is_good_redirect tables) rows → AllByRecursion (λ row. is_normal row.rd_title ≡ true) rows
  redirects-normal rows good =
      let passes = Passes-from_good (λ (earlier row : RedirectColumns). ltb earlier.rd_from row.rd_from)
      (λ row. has_page tables row.rd_from && is_page_title row.rd_title)
      (is_good_redirect tables) (λ before row. refl) rows good in
      each-weaker (λ (row : RedirectColumns). (has_page tables row.rd_from && is_page_title row.rd_title) ≡ true) (λ row. is_normal row.rd_title ≡ true)
      (λ row passed. (and_parts (is_normal row.rd_title) (not (is_virtual row.rd_title)) (and_parts (has_page tables row.rd_from) (is_page_title row.rd_title) passed).1).0)
      rows passes.alone

  redirects-in-order : (rows : List RedirectColumns) → EachGood (is_good_redirect tables) rows → IsNonDecreasingBy (λ (row : RedirectColumns). row.rd_from) rows
  redirects-in-order rows good =
      let passes = Passes-from_good (λ (earlier row : RedirectColumns). ltb earlier.rd_from row.rd_from)
      (λ row. has_page tables row.rd_from && is_page_title row.rd_title)
      (is_good_redirect tables) (λ before row. refl) rows good in
      in-order (λ (row : RedirectColumns). row.rd_from) (λ (earlier row : RedirectColumns). ltb earlier.rd_from row.rd_from)
      (λ a b under. let low : a.rd_from < b.rd_from = ltb-true a.rd_from b.rd_from under in omega arith) rows passes.paired

pub AreLoadable-from_good : (tables : StoreTables) → IsGood tables → AreLoadable tables
AreLoadable-from_good tables good =
    let rules = KeepsRules-from_good tables good in
    record {
      pages = let all : 0 + length tables.pages ≤ max_pages = few [] tables.pages rules.ids (omega arith) in omega arith;
      links_normal = All-from_recursion (λ row. is_normal row.target ≡ true) tables.pagelinks (links-normal tables tables.pagelinks rules.pagelinks);
      templates_normal = All-from_recursion (λ row. is_normal row.target ≡ true) tables.templatelinks (links-normal tables tables.templatelinks rules.templatelinks);
      exists_normal = All-from_recursion (λ row. is_normal row.target ≡ true) tables.existlinks (links-normal tables tables.existlinks rules.existlinks);
      categories_normal = All-from_recursion (λ row. is_normal (category_title row.cl_to) ≡ true) tables.categorylinks (categories-normal tables tables.categorylinks rules.categorylinks);
      redirects_normal = All-from_recursion (λ row. is_normal row.rd_title ≡ true) tables.redirects (redirects-normal tables tables.redirects rules.redirects);
      links_in_order = links-in-order tables tables.pagelinks rules.pagelinks;
      templates_in_order = links-in-order tables tables.templatelinks rules.templatelinks;
      exists_in_order = links-in-order tables tables.existlinks rules.existlinks;
      categories_in_order = categories-in-order tables tables.categorylinks rules.categorylinks;
      redirects_in_order = redirects-in-order tables tables.redirects rules.redirects;
    }
