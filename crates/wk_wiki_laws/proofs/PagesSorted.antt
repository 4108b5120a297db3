-- Rows in the order of their pages are the rows of each page, one page after the other.
use Rattle.std.proofs.Common.{◌≡◌, ◌≢◌, ℕ, zero, suc, ◌+◌, ◌≤◌, ◌<◌, Bool, eqb, leb, not, List, [], ◌∷◌, ◌++◌, length, map, refl, sym, ap, ap₂, ◌∙◌, inl, inr, arith}
use Rattle.std.specs.Prelude.{⊤, filter}
use Rattle.std.specs.List.{AllByRecursion}
use Rattle.std.proofs.lemmas.Bool.{cases_Bool, and_parts, eqb-true, eqb-false, ne_eqb}
use Rattle.std.proofs.lemmas.List.{length-append}
use Rattle.wk_page_rules.specs.Verdict.{max_pages}
use Rattle.wk_page_rules.specs.PageRows.{PageRows}
use Rattle.wk_table_rules.specs.Rows.{PageColumns}
use Rattle.wk_table_rules.specs.GoodStore.{has_good_id}
use Rattle.wk_table_laws.specs.EachGood.{GoodAfter}
use Rattle.wk_wiki_laws.proofs.JobOrder.{each-weaker, each-filter}
use Rattle.wk_wiki_laws.proofs.LinksMade.{rows_from}

-- what each of so many numbers gives, from one on
abbrev pub flat : {Row : Type 0} → (ℕ → List Row) → ℕ → ℕ → List Row
flat g a zero = []
flat g a (suc n) = let later = flat g (a + 1) n in g a ++ later

pub same-flat : {Row : Type 0} (f g : ℕ → List Row) (a n : ℕ) → ((k : ℕ) → a ≤ k → k < a + n → f k ≡ g k) → flat f a n ≡ flat g a n
same-flat f g a zero same = refl
same-flat f g a (suc n) same =
    ap₂ (λ xs ys. xs ++ ys) (same a (omega arith) (omega arith))
    (same-flat f g (a + 1) n (λ k from below. same k (omega (arith, from)) (omega (arith, below))))

-- the rows of pages whose numbers are their places
pub rows-by-ids : {Row : Type 0} (f : ℕ → PageRows → List Row) (of_page : ℕ → PageRows) (before pages : List PageColumns) (a : ℕ) → a ≡ length before + 1 → GoodAfter has_good_id before pages
    → rows_from f a (map (λ (page : PageColumns). of_page page.page_id) pages) ≡ flat (λ k. f k (of_page k)) a (length pages)
rows-by-ids f of_page before [] a at good = refl
rows-by-ids f of_page before (page ∷ pages) a at good =
    let id = eqb-true page.page_id (length before + 1) (and_parts (eqb page.page_id (length before + 1)) (leb page.page_id max_pages) good.0).0 in
    let same : page.page_id ≡ a = id ∙ sym at in
    let longer = length-append before (page ∷ []) in
    ap₂ (λ xs ys. xs ++ ys) (ap (λ k. f a (of_page k)) same) (rows-by-ids f of_page (before ++ page ∷ []) pages (a + 1) (omega (arith, at, longer)) good.1)

module _ {Row : Type 0} (from : Row → ℕ) where
  -- no row is of a lower page than one before it
  abbrev pub Rising : List Row → Type 0
  Rising [] = ⊤
  Rising (row ∷ rows) = AllByRecursion (λ later. from row ≤ from later) rows × Rising rows

  abbrev is_of : ℕ → Row → Bool
  is_of k row = eqb (from row) k

  abbrev isnt_of : ℕ → Row → Bool
  isnt_of k row = not (eqb (from row) k)

  Rising-filter : (p : Row → Bool) (rows : List Row) → Rising rows → Rising (filter p rows)
  Rising-filter p [] rising = tt
  Rising-filter p (row ∷ rows) rising = elim (cases_Bool (p row)) [
    | inl kept ↦ rw kept (each-filter (λ later. from row ≤ from later) p rows rising.0, Rising-filter p rows rising.1)
    | inr gone ↦ rw gone (Rising-filter p rows rising.1)
  ]

  none-of : (k : ℕ) (rows : List Row) → AllByRecursion (λ row. k < from row) rows → (filter (is_of k) rows ≡ []) × (filter (isnt_of k) rows ≡ rows)
  none-of k [] all = (refl, refl)
  none-of k (row ∷ rows) all =
      let above = all.0 in
      let other = ne_eqb (from row) k (λ same. omega (arith, same, above)) in
      let later = none-of k rows all.1 in
      (rw other later.0, rw other (ap (λ rs. row ∷ rs) later.1))

  -- the rows of the lowest page stand first
  lowest-first : (k : ℕ) (rows : List Row) → Rising rows → AllByRecursion (λ row. k ≤ from row) rows → filter (is_of k) rows ++ filter (isnt_of k) rows ≡ rows
  lowest-first k [] rising low = refl
  lowest-first k (row ∷ rows) rising low = elim (cases_Bool (eqb (from row) k)) [
    | inl own ↦ rw own (ap (λ rs. row ∷ rs) (lowest-first k rows rising.1 low.1))
    | inr other ↦
        let differs = eqb-false (from row) k other in
        let at = low.0 in
        let none = none-of k rows (each-weaker (λ later. from row ≤ from later) (λ later. k < from later) (λ later far. omega (arith, far, differs, at)) rows rising.0) in
        rw other (ap₂ (λ xs ys. xs ++ row ∷ ys) none.0 none.1)
  ]

  -- what is of another page is left
  other-left : (k other : ℕ) → k ≢ other → (rows : List Row) → filter (is_of k) (filter (isnt_of other) rows) ≡ filter (is_of k) rows
  other-left k other apart [] = refl
  other-left k other apart (row ∷ rows) = elim (cases_Bool (eqb (from row) other)) [
    | inl gone ↦
        let is = eqb-true (from row) other gone in
        let differs = ne_eqb (from row) k (λ same. apart (sym same ∙ is)) in
        rw (gone, differs) (other-left k other apart rows)
    | inr kept ↦ elim (cases_Bool (eqb (from row) k)) [
      | inl own ↦ rw (kept, own) (ap (λ rs. row ∷ rs) (other-left k other apart rows))
      | inr none ↦ rw (kept, none) (other-left k other apart rows)
    ]
  ]

  above-left : (k : ℕ) (rows : List Row) → AllByRecursion (λ row. k ≤ from row) rows → AllByRecursion (λ row. k + 1 ≤ from row) (filter (isnt_of k) rows)
  above-left k [] all = tt
  above-left k (row ∷ rows) all = elim (cases_Bool (eqb (from row) k)) [
    | inl gone ↦ rw gone (above-left k rows all.1)
    | inr kept ↦ let differs = eqb-false (from row) k kept in let low = all.0 in rw kept (omega (arith, differs, low), above-left k rows all.1)
  ]

  pub flat-is : (n a : ℕ) (rows : List Row) → Rising rows → AllByRecursion (λ row. a ≤ from row) rows → AllByRecursion (λ row. from row < a + n) rows → flat (λ k. filter (λ row. eqb (from row) k) rows) a n ≡ rows
  flat-is zero a [] rising low high = refl
  flat-is zero a (row ∷ rows) rising low high = absurd (let one = low.0 in let two = high.0 in omega (arith, one, two))
  flat-is (suc n) a rows rising low high =
      let rest = filter (isnt_of a) rows in
      ap (λ rs. filter (is_of a) rows ++ rs)
      (same-flat (λ k. filter (λ row. eqb (from row) k) rows) (λ k. filter (λ row. eqb (from row) k) rest) (a + 1) n (λ k above below. sym (other-left k a (λ same. omega (arith, same, above)) rows))
      ∙ flat-is n (a + 1) rest (Rising-filter (isnt_of a) rows rising) (above-left a rows low)
      (each-weaker (λ row. from row < a + suc n) (λ row. from row < (a + 1) + n) (λ row under. omega (arith, under)) rest (each-filter (λ row. from row < a + suc n) (isnt_of a) rows high)))
      ∙ lowest-first a rows rising low
