-- The rows of all pages, where the rows of one page are replaced or a page is added.
use Rattle.std.proofs.Common.{◌≡◌, ◌≢◌, ℕ, suc, ◌+◌, ◌-◌, ◌≤◌, ◌<◌, Bool, eqb, ltb, not, List, [], ◌∷◌, ◌++◌, length, set, take, drop, refl, sym, ap, ap₂, ◌∙◌, inl, inr, subst, arith, append-nil}
use Rattle.std.specs.Prelude.{filter, flat_map}
use Rattle.std.specs.List.{AllByRecursion, enumerate_from, position_or_len}
use Rattle.std.proofs.Math.Numerals.{one-add}
use Rattle.std.proofs.lemmas.Bool.{cases_Bool, eqb-true, eqb-false, eq-eqb, ne_eqb, lt-ltb, le-ltb}
use Rattle.std.proofs.lemmas.List.Elements.{filter-append}
use Rattle.wk_page_rules.specs.PageRows.{PageRows, no_rows}
use Rattle.wk_table_rules.specs.Changes.{with_rows_of}
use Rattle.wk_wiki_laws.proofs.JobOrder.{each-append, each-weaker}

-- the rows that each page has, from a number on
abbrev pub rows_from : {Row : Type 0} → (ℕ → PageRows → List Row) → ℕ → List PageRows → List Row
rows_from rows_of a stored = flat_map (λ page. rows_of page.0 page.1) (enumerate_from a stored)

pub same-rows : {Row : Type 0} (f g : ℕ → PageRows → List Row) (a : ℕ) (stored : List PageRows) → ((number : ℕ) (rows : PageRows) → a ≤ number → number < a + length stored → f number rows ≡ g number rows) → rows_from f a stored ≡ rows_from g a stored
same-rows f g a [] same = refl
same-rows f g a (rows ∷ stored) same =
    ap₂ (λ xs ys. xs ++ ys) (same a rows (omega arith) (omega arith))
    (same-rows f g (a + 1) stored (λ number others from below. same number others (omega (arith, from)) (omega (arith, below))))

-- a page without rows adds none
pub none-added : {Row : Type 0} (f : ℕ → PageRows → List Row) (a : ℕ) (stored : List PageRows) → ((number : ℕ) → f number no_rows ≡ []) → rows_from f a (stored ++ no_rows ∷ []) ≡ rows_from f a stored
none-added f a [] none = append-nil (f a no_rows) ∙ none a
none-added f a (rows ∷ stored) none = ap (λ xs. f a rows ++ xs) (none-added f (a + 1) stored none)

-- ---- one page's rows are replaced

module _ {Row : Type 0} (from : Row → ℕ) (f : ℕ → PageRows → List Row) (own : (number : ℕ) (rows : PageRows) → AllByRecursion (λ row. from row ≡ number) (f number rows)) where
  at-least : (a : ℕ) (stored : List PageRows) → AllByRecursion (λ row. a ≤ from row) (rows_from f a stored)
  at-least a [] = tt
  at-least a (rows ∷ stored) =
      each-append (λ row. a ≤ from row) (f a rows) (rows_from f (a + 1) stored)
      (each-weaker (λ row. from row ≡ a) (λ row. a ≤ from row) (λ row same. omega (arith, same)) (f a rows) (own a rows))
      (each-weaker (λ row. a + 1 ≤ from row) (λ row. a ≤ from row) (λ row far. omega (arith, far)) (rows_from f (a + 1) stored) (at-least (a + 1) stored))

  module _ (page : ℕ) where
    abbrev is_other : Row → Bool
    is_other row = not (eqb (from row) page)

    abbrev is_higher : Row → Bool
    is_higher row = ltb page (from row)

    none-own : (rows : List Row) → AllByRecursion (λ row. from row ≡ page) rows → filter is_other rows ≡ []
    none-own [] all = refl
    none-own (row ∷ rows) all = let same = eq-eqb (from row) page all.0 in rw same (none-own rows all.1)

    all-others : (rows : List Row) → AllByRecursion (λ row. from row ≢ page) rows → filter is_other rows ≡ rows
    all-others [] all = refl
    all-others (row ∷ rows) all = let other = ne_eqb (from row) page all.0 in rw other (ap (λ rs. row ∷ rs) (all-others rows all.1))

    -- new rows stand before the first row of a higher page
    abbrev inserted : List Row → List Row → List Row
    inserted rows new = take (position_or_len is_higher rows) rows ++ new ++ drop (position_or_len is_higher rows) rows

    first-higher : (rows new : List Row) → AllByRecursion (λ row. page < from row) rows → inserted rows new ≡ new ++ rows
    first-higher [] new all = refl
    first-higher (row ∷ rows) new all = let above = lt-ltb page (from row) all.0 in rw above refl

    behind-lower : (lower rows new : List Row) → AllByRecursion (λ row. from row ≤ page) lower → inserted (lower ++ rows) new ≡ lower ++ inserted rows new
    behind-lower [] rows new all = refl
    behind-lower (row ∷ lower) rows new all =
        let under = le-ltb page (from row) all.0 in
        rw (under, one-add) (ap (λ rs. row ∷ rs) (behind-lower lower rows new all.1))

    replaced-from : (a : ℕ) (stored : List PageRows) (rows : PageRows) → a ≤ page → page < a + length stored → inserted (filter is_other (rows_from f a stored)) (f page rows) ≡ rows_from f a (set stored (page - a) rows)
    replaced-from a [] rows low high = absurd (omega (arith, low, high))
    replaced-from a (x ∷ stored) rows low high = elim (cases_Bool (eqb a page)) [
      | inl same ↦
          let at = eqb-true a page same in
          let zero_more : page - a ≡ 0 = omega (arith, at) in
          let mine : AllByRecursion (λ row. from row ≡ page) (f a x) = subst (λ n. AllByRecursion (λ row. from row ≡ n) (f a x)) at (own a x) in
          let above = each-weaker (λ row. a + 1 ≤ from row) (λ row. page < from row) (λ row far. omega (arith, far, at)) (rows_from f (a + 1) stored) (at-least (a + 1) stored) in
          let apart = each-weaker (λ row. page < from row) (λ row. from row ≢ page) (λ row far same. omega (arith, far, same)) (rows_from f (a + 1) stored) above in
          let others : filter is_other (rows_from f a (x ∷ stored)) ≡ rows_from f (a + 1) stored =
          filter-append is_other (f a x) (rows_from f (a + 1) stored) ∙ ap₂ (λ xs ys. xs ++ ys) (none-own (f a x) mine) (all-others (rows_from f (a + 1) stored) apart) in
          ap (λ rs. inserted rs (f page rows)) others
          ∙ (first-higher (rows_from f (a + 1) stored) (f page rows) above
          ∙ rw zero_more (ap (λ n. f n rows ++ rows_from f (a + 1) stored) (sym at)))
      | inr other ↦
          let differ = eqb-false a page other in
          let one : page - a ≡ suc (page - (a + 1)) = omega (arith, differ, low) in
          let low_rows = each-weaker (λ row. from row ≡ a) (λ row. from row ≤ page) (λ row same. omega (arith, same, low)) (f a x) (own a x) in
          let apart = each-weaker (λ row. from row ≡ a) (λ row. from row ≢ page) (λ row same is. differ (sym same ∙ is)) (f a x) (own a x) in
          let others : filter is_other (rows_from f a (x ∷ stored)) ≡ f a x ++ filter is_other (rows_from f (a + 1) stored) =
          filter-append is_other (f a x) (rows_from f (a + 1) stored) ∙ ap (λ xs. xs ++ filter is_other (rows_from f (a + 1) stored)) (all-others (f a x) apart) in
          ap (λ rs. inserted rs (f page rows)) others
          ∙ (behind-lower (f a x) (filter is_other (rows_from f (a + 1) stored)) (f page rows) low_rows
          ∙ rw one (ap (λ rs. f a x ++ rs) (replaced-from (a + 1) stored rows (omega (arith, differ, low)) (omega (arith, high)))))
    ]

    pub with_rows_of-is : (stored : List PageRows) (rows : PageRows) → 1 ≤ page → page ≤ length stored → with_rows_of from page (rows_from f 1 stored) (f page rows) ≡ rows_from f 1 (set stored (page - 1) rows)
    with_rows_of-is stored rows low high = replaced-from 1 stored rows low (omega (arith, high))
