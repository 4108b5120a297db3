-- Pages whose numbers are their places, counted from 1.
use Rattle.std.proofs.Common.{◌≡◌, ℕ, zero, suc, pos, ◌+◌, ◌<◌, ◌≤◌, true, false, eqb, ltb, leb, ◌&&◌, ◌||◌, List, [], ◌∷◌, ◌++◌, length, get_or, Some, None, option_map, refl, sym, ap, ◌∙◌, inl, inr, arith, length-append}
use Rattle.std.specs.Prelude.{find, unwrap_or}
use Rattle.std.specs.List.{list_any}
use Rattle.std.proofs.lemmas.Bool.{cases_Bool, and_parts, eqb-true, ltb-true, leb-true, eq-eqb, ne_eqb}
use Rattle.std.proofs.lemmas.Bool.Decides.{nat_tests}
use Rattle.std.specs.Ordering.{int_eq}
use Rattle.wk_table_rules.specs.Rows.{LinkColumns, PageColumns, StoreTables}
use Rattle.wk_table_rules.specs.Changes.{has_page, namespace_of}
use Rattle.wk_page_rules.specs.Verdict.{max_pages}
use Rattle.wk_table_rules.specs.GoodStore.{first_bad, first_bad_after, has_good_id}
use Rattle.wk_good_rows.specs.FromPage.{is_from_page}

-- a list with a good row in front
head-good : (before rows : List PageColumns) (row : PageColumns) → first_bad_after has_good_id before (row ∷ rows) ≡ None
    → (row.page_id ≡ length before + 1) × (first_bad_after has_good_id (before ++ row ∷ []) rows ≡ None)
head-good before rows row none = elim (cases_Bool (has_good_id before row)) [
  | inl good ↦
      let parts = and_parts (eqb row.page_id (length before + 1)) (leb row.page_id max_pages) good in
      (eqb-true row.page_id (length before + 1) parts.0, rw good at none)
  | inr bad ↦ absurd (let e : Some (length before + 1) ≡ None = rw bad at none in cc)
]

longer : (before : List PageColumns) (row : PageColumns) → length (before ++ row ∷ []) ≡ length before + 1
longer before row = length-append before (row ∷ [])

number-after : (before rows : List PageColumns) → first_bad_after has_good_id before rows ≡ None → (k : ℕ) (d : PageColumns) → k < length rows
    → (get_or rows k d).page_id ≡ length before + k + 1
number-after before [] none k d inside = absurd (omega arith)
number-after before (row ∷ rows) none zero d inside = let e : row.page_id ≡ length before + 1 = (head-good before rows row none).0 in omega arith
number-after before (row ∷ rows) none (suc k) d inside =
    let later = number-after (before ++ row ∷ []) rows (head-good before rows row none).1 k d (omega arith) in
    let long = longer before row in
    omega arith

-- the number of a page
pub number-at : (pages : List PageColumns) → first_bad has_good_id pages ≡ None → (k : ℕ) (d : PageColumns) → k < length pages → (get_or pages k d).page_id ≡ k + 1
number-at pages none k d inside = let e = number-after [] pages none k d inside in omega arith

tests-next : (n len id : ℕ) → (eqb (n + 1) id || (ltb (n + 1) id && leb id (n + 1 + len))) ≡ (ltb n id && leb id (n + suc len))
tests-next n len id = grind (arith, nat_tests)

tests-none : (n id : ℕ) → false ≡ (ltb n id && leb id (n + 0))
tests-none n id = grind (arith, nat_tests)

there-after : (before rows : List PageColumns) → first_bad_after has_good_id before rows ≡ None → (id : ℕ)
    → list_any (λ page. eqb page.page_id id) rows ≡ (ltb (length before) id && leb id (length before + length rows))
there-after before [] none id = tests-none (length before) id
there-after before (row ∷ rows) none id =
    let head = head-good before rows row none in
    let later = there-after (before ++ row ∷ []) rows head.1 id in
    ap (λ n. eqb n id || list_any (λ page. eqb page.page_id id) rows) head.0
    ∙ ap (λ b. eqb (length before + 1) id || b) (later ∙ ap (λ n. ltb n id && leb id (n + length rows)) (longer before row))
    ∙ tests-next (length before) (length rows) id

-- which numbers are those of pages
pub there-is : (pages : List PageColumns) → first_bad has_good_id pages ≡ None → (id : ℕ) → list_any (λ page. eqb page.page_id id) pages ≡ (ltb 0 id && leb id (length pages))
there-is pages none id = let e : 0 + length pages ≡ length pages = omega arith in there-after [] pages none id ∙ ap (λ n. ltb 0 id && leb id n) e

find-after : (before rows : List PageColumns) → first_bad_after has_good_id before rows ≡ None → (k : ℕ) (d : PageColumns) (id : ℕ) → k < length rows → id ≡ length before + k + 1
    → find (λ page. eqb page.page_id id) rows ≡ Some (get_or rows k d)
find-after before [] none k d id inside is = absurd (omega arith)
find-after before (row ∷ rows) none zero d id inside is =
    let e : row.page_id ≡ length before + 1 = (head-good before rows row none).0 in
    rw (eq-eqb row.page_id id (omega arith)) refl
find-after before (row ∷ rows) none (suc k) d id inside is =
    let head = head-good before rows row none in
    let e : row.page_id ≡ length before + 1 = head.0 in
    let long = longer before row in
    rw (ne_eqb row.page_id id (λ same. omega arith)) (find-after (before ++ row ∷ []) rows head.1 k d id (omega arith) (omega arith))

-- the namespace of the page with this number
pub namespace-at : (tables : StoreTables) → first_bad has_good_id tables.pages ≡ None → (k : ℕ) (d : PageColumns) (id : ℕ) → k < length tables.pages → k + 1 ≡ id
    → namespace_of tables id ≡ (get_or tables.pages k d).page_title.ns
namespace-at tables none k d id inside is =
    ap (λ found. unwrap_or (option_map (λ (row : PageColumns). row.page_title.ns) found) (pos 0)) (find-after [] tables.pages none k d id inside (omega arith))

-- the number of a page is within their number
pub within-of : (pages : List PageColumns) → first_bad has_good_id pages ≡ None → (id : ℕ) → list_any (λ page. eqb page.page_id id) pages ≡ true → (0 < id) × (id < length pages + 1)
within-of pages none id there =
    let parts = and_parts (ltb 0 id) (leb id (length pages)) (sym (there-is pages none id) ∙ there) in
    let low : 0 < id = ltb-true 0 id parts.0 in
    let high : id ≤ length pages = leb-true id (length pages) parts.1 in
    (low, omega arith)

-- the page of a link row
pub from-page-is : (tables : StoreTables) → first_bad has_good_id tables.pages ≡ None → (row : LinkColumns) (k : ℕ) (page : PageColumns) → page ≡ get_or tables.pages k page
    → k < length tables.pages → k + 1 ≡ row.from → has_page tables row.from ≡ true → int_eq row.from_namespace page.page_title.ns ≡ is_from_page tables row
from-page-is tables none row k page read inside own there =
    let namespace : namespace_of tables row.from ≡ page.page_title.ns = namespace-at tables none k page row.from inside own ∙ ap (λ (p : PageColumns). p.page_title.ns) (sym read) in
    rw (there, namespace) refl
