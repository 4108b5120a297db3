-- Rows of which each stands before those behind it: the last one decides.
use Rattle.std.proofs.Common.{◌≡◌, ℕ, zero, suc, ◌+◌, ◌-◌, ◌<◌, Bool, true, false, ltb, List, [], ◌∷◌, ◌++◌, length, take, get_or, refl, sym, ap, subst, ◌∙◌, inl, inr, arith}
use Rattle.std.specs.List.{list_all}
use Rattle.std.specs.Cmp.{IsTotalOrder}
use Rattle.std.specs.Ordering.{is_lt, nat_cmp, ordering_then}
use Rattle.std.specs.declared.cmp.Ordering.{Ordering}
use Rattle.std.specs.declared.cmp.Ordering.TheVariants.{Less, Equal, Greater}
use Rattle.std.proofs.lemmas.Bool.{cases_Bool, and_parts, and_from, and_right, ltb-true, lt-ltb}
use Rattle.std.proofs.lemmas.Cmp.{nat_cmp_total, int_cmp_total, nat_list_cmp_total, on_total, then_total}
use Rattle.std.proofs.lemmas.List.{take_more}
use Rattle.std.proofs.lemmas.List.Folds.{list_all-append}
use Rattle.wk_text_rules.specs.Titles.{PageTitle, title_cmp}
use Rattle.wk_table_rules.specs.GoodStore.{row_lt}
use Rattle.wk_good_rows.specs.Order.{Carries, IsInOrder}

module _ {Row : Type 0} (lt : Row → Row → Bool) (carries : Carries lt) where
  all-carry : (rows : List Row) (last row : Row) → list_all (λ earlier. lt earlier last) rows ≡ true → lt last row ≡ true → list_all (λ earlier. lt earlier row) rows ≡ true
  all-carry [] last row all before = refl
  all-carry (first ∷ rows) last row all before =
      let parts = and_parts (lt first last) (list_all (λ earlier. lt earlier last) rows) all in
      and_from (lt first row) (list_all (λ earlier. lt earlier row) rows) (carries first last row parts.0 before) (all-carry rows last row parts.1 before)

  -- the rows before the last one stand before it, so it decides
  pub last-decides : (rows : List Row) (last row : Row) → list_all (λ earlier. lt earlier last) rows ≡ true → list_all (λ earlier. lt earlier row) (rows ++ last ∷ []) ≡ lt last row
  last-decides rows last row all =
      list_all-append (λ earlier. lt earlier row) rows (last ∷ [])
      ∙ elim (cases_Bool (lt last row)) [
        | inl before ↦ rw (before, all-carry rows last row all before) refl
        | inr behind ↦ rw behind (and_right (list_all (λ earlier. lt earlier row) rows) false refl)
      ]

  pub behind-decides : (rows : List Row) (i : ℕ) (last row : Row) → 0 < i → i < length rows → last ≡ get_or rows (i - 1) last → IsInOrder lt rows i
      → list_all (λ earlier. lt earlier row) (take i rows) ≡ lt last row
  behind-decides rows i last row some inside read behind =
      let one : i - 1 + 1 ≡ i = omega arith in
      let front : take i rows ≡ take (i - 1) rows ++ last ∷ [] =
      ap (λ n. take n rows) (sym one) ∙ take_more rows (i - 1) last (omega arith) ∙ ap (λ r. take (i - 1) rows ++ r ∷ []) (sym read) in
      ap (list_all (λ earlier. lt earlier row)) front ∙ last-decides (take (i - 1) rows) last row (behind last some read)

-- one more row that stands behind all before it
pub IsInOrder-more : {Row : Type 0} (lt : Row → Row → Bool) (rows : List Row) (i : ℕ) (row : Row) → row ≡ get_or rows i row → list_all (λ earlier. lt earlier row) (take i rows) ≡ true → i < length rows → IsInOrder lt rows (i + 1)
IsInOrder-more lt rows i row read all inside last some at =
    let same : i + 1 - 1 ≡ i = omega arith in
    let e : last ≡ row = at ∙ ap (λ n. get_or rows n last) same ∙ get-any rows i last row inside ∙ sym read in
    subst (λ n. list_all (λ earlier. lt earlier last) (take n rows) ≡ true) (sym same)
    (subst (λ l. list_all (λ earlier. lt earlier l) (take i rows) ≡ true) (sym e) all)
  where
    get-any : {X : Type 0} (rows : List X) (i : ℕ) (d e : X) → i < length rows → get_or rows i d ≡ get_or rows i e
    get-any [] i d e inside = absurd (omega arith)
    get-any (x ∷ xs) zero d e inside = refl
    get-any (x ∷ xs) (suc i) d e inside = get-any xs i d e (omega arith)

pub IsInOrder-none : {Row : Type 0} (lt : Row → Row → Bool) (rows : List Row) → IsInOrder lt rows 0
IsInOrder-none lt rows last some read = absurd (omega arith)

-- ---- the orders of rows

is_lt-Less : (o : Ordering) → is_lt o ≡ true → o ≡ Less
is_lt-Less Less lt = refl
is_lt-Less Equal lt = absurd cc
is_lt-Less Greater lt = absurd cc

pub total-carries : {K : Type 0} (R : K → K → Ordering) → IsTotalOrder R → Carries (λ a b. is_lt (R a b))
total-carries R total a b c ab bc = ap is_lt (total.trans a b c (is_lt-Less (R a b) ab) (is_lt-Less (R b c) bc))

title_total : IsTotalOrder title_cmp
title_total = then_total (on_total (λ (t : PageTitle). t.ns) int_cmp_total) (on_total (λ (t : PageTitle). t.key) nat_list_cmp_total)

pub row_lt-carries : {Row : Type 0} (page : Row → ℕ) (title : Row → PageTitle) → Carries (λ a b. row_lt (page a) (title a) (page b) (title b))
row_lt-carries page title = total-carries (λ a b. ordering_then (nat_cmp (page a) (page b)) (title_cmp (title a) (title b))) (then_total (on_total page nat_cmp_total) (on_total title title_total))

pub number-carries : {Row : Type 0} (number : Row → ℕ) → Carries (λ a b. ltb (number a) (number b))
number-carries number a b c ab bc =
    let low : number a < number b = ltb-true (number a) (number b) ab in
    let high : number b < number c = ltb-true (number b) (number c) bc in
    lt-ltb (number a) (number c) (omega arith)
