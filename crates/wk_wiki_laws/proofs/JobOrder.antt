-- Jobs in the order of their numbers, where one is moved, added, changed or taken away.
use Rattle.std.proofs.Common.{◌≡◌, ◌≢◌, ℕ, ◌+◌, ◌<◌, Bool, true, false, cond, eqb, ltb, not, List, [], ◌∷◌, ◌++◌, length, map, set, fold, suc, Option, Some, None, refl, sym, ap, ◌∙◌, inl, inr, arith}
use Rattle.std.specs.Prelude.{⊤, filter, nat_eq}
use Rattle.std.specs.List.{AllByRecursion, IsDistinct, filter_map, list_all, list_any, position_or_len, remove}
use Rattle.std.proofs.Math.Numerals.{one-add}
use Rattle.std.proofs.lemmas.Bool.{cases_Bool, and_from, ltb-true, ltb-false, lt-ltb, le-ltb, eqb-true, eqb-false, ne_eqb}
use Rattle.std.proofs.lemmas.List.Sums.{fold-append}
use Rattle.std.proofs.lemmas.List.Sorted.{IsPermutation-map, list_any-IsPermutation}
use Rattle.std.proofs.lemmas.Map.Keys.{IsDistinct-IsPermutation}
use Rattle.wk_wiki_rules.specs.Steps.{placed, by_number}
use Rattle.wk_wiki_rules.proofs.JobLemmas.{by_number-permutes}
use Rattle.wk_wiki_rules.proofs.Lists.{eqb_flips}
use Rattle.wk_table_laws.proofs.Order.{each-placed, filter_map-by_number}

-- ---- each of a list

pub each-append : {X : Type 0} (P : X → Type 0) (xs ys : List X) → AllByRecursion P xs → AllByRecursion P ys → AllByRecursion P (xs ++ ys)
each-append P [] ys front back = back
each-append P (x ∷ xs) ys front back = (front.0, each-append P xs ys front.1 back)

pub each-front : {X : Type 0} (P : X → Type 0) (xs ys : List X) → AllByRecursion P (xs ++ ys) → AllByRecursion P xs
each-front P [] ys all = tt
each-front P (x ∷ xs) ys all = (all.0, each-front P xs ys all.1)

pub each-back : {X : Type 0} (P : X → Type 0) (xs ys : List X) → AllByRecursion P (xs ++ ys) → AllByRecursion P ys
each-back P [] ys all = all
each-back P (x ∷ xs) ys all = each-back P xs ys all.1

pub each-weaker : {X : Type 0} (P Q : X → Type 0) → ((x : X) → P x → Q x) → (xs : List X) → AllByRecursion P xs → AllByRecursion Q xs
each-weaker P Q weaker [] all = tt
each-weaker P Q weaker (x ∷ xs) all = (weaker x all.0, each-weaker P Q weaker xs all.1)

pub each-filter : {X : Type 0} (P : X → Type 0) (p : X → Bool) (xs : List X) → AllByRecursion P xs → AllByRecursion P (filter p xs)
each-filter P p [] all = tt
each-filter P p (x ∷ xs) all = elim (p x) as (λ b. AllByRecursion P (cond b (x ∷ filter p xs) (filter p xs))) [
  | true ↦ (all.0, each-filter P p xs all.1)
  | false ↦ each-filter P p xs all.1
]

pub each-map : {X Y : Type 0} (P : Y → Type 0) (f : X → Y) (xs : List X) → AllByRecursion P (map f xs) → AllByRecursion (λ x. P (f x)) xs
each-map P f [] all = tt
each-map P f (x ∷ xs) all = (all.0, each-map P f xs all.1)

pub map-each : {X Y : Type 0} (P : Y → Type 0) (f : X → Y) (xs : List X) → AllByRecursion (λ x. P (f x)) xs → AllByRecursion P (map f xs)
map-each P f [] all = tt
map-each P f (x ∷ xs) all = (all.0, map-each P f xs all.1)

module _ {Row : Type 0} (number : Row → ℕ) where
  -- ---- rows of different numbers

  abbrev pub Apart : List Row → Type 0
  Apart [] = ⊤
  Apart (row ∷ rows) = AllByRecursion (λ other. number row ≢ number other) rows × Apart rows

  pub Apart-distinct : (rows : List Row) → IsDistinct nat_eq (map number rows) → Apart rows
  unfolding IsDistinct
  Apart-distinct [] distinct = tt
  Apart-distinct (row ∷ rows) distinct = (
    each-map (λ n. number row ≢ n) number rows (each-weaker (λ n. nat_eq (number row) n ≡ false) (λ n. number row ≢ n) (λ n differs. eqb-false (number row) n differs) (map number rows) distinct.0),
    Apart-distinct rows distinct.1,
  )

  pub Apart-back : (xs ys : List Row) → Apart (xs ++ ys) → Apart ys
  Apart-back [] ys apart = apart
  Apart-back (x ∷ xs) ys apart = Apart-back xs ys apart.1

  -- ---- one is placed after others

  placed-swap : (rows : List Row) (x y : Row) → number x ≢ number y → placed number (placed number rows x) y ≡ placed number (placed number rows y) x
  placed-swap [] x y apart = elim (cases_Bool (ltb (number y) (number x))) [
    | inl below ↦
        let under = ltb-true (number y) (number x) below in
        let over : ltb (number x) (number y) ≡ false = le-ltb (number x) (number y) (omega (arith, under)) in
        rw (below, over) refl
    | inr above ↦
        let up = ltb-false (number y) (number x) above in
        let under : ltb (number x) (number y) ≡ true = lt-ltb (number x) (number y) (omega (arith, up, apart)) in
        rw (above, under) refl
  ]
  placed-swap (a ∷ rows) x y apart = elim (cases_Bool (ltb (number x) (number a))) [
    | inl x_first ↦ elim (cases_Bool (ltb (number y) (number a))) [
      | inl y_first ↦ elim (cases_Bool (ltb (number y) (number x))) [
        | inl below ↦
            let under = ltb-true (number y) (number x) below in
            let over : ltb (number x) (number y) ≡ false = le-ltb (number x) (number y) (omega (arith, under)) in
            rw (x_first, y_first, below, over, x_first) refl
        | inr above ↦
            let up = ltb-false (number y) (number x) above in
            let under : ltb (number x) (number y) ≡ true = lt-ltb (number x) (number y) (omega (arith, up, apart)) in
            rw (x_first, y_first, above, under) refl
      ]
      | inr y_later ↦
          let one = ltb-true (number x) (number a) x_first in
          let two = ltb-false (number y) (number a) y_later in
          let behind : ltb (number y) (number x) ≡ false = le-ltb (number y) (number x) (omega (arith, one, two)) in
          rw (x_first, y_later, behind, x_first) refl
    ]
    | inr x_later ↦ elim (cases_Bool (ltb (number y) (number a))) [
      | inl y_first ↦
          let one = ltb-true (number y) (number a) y_first in
          let two = ltb-false (number x) (number a) x_later in
          let behind : ltb (number x) (number y) ≡ false = le-ltb (number x) (number y) (omega (arith, one, two)) in
          rw (x_later, y_first, behind, x_later) refl
      | inr y_later ↦ rw (x_later, y_later, x_later) (ap (λ later. a ∷ later) (placed-swap rows x y apart))
    ]
  ]

  fold-late : (before rows : List Row) (x : Row) → AllByRecursion (λ other. number x ≢ number other) rows → fold (placed number) (placed number before x) rows ≡ placed number (fold (placed number) before rows) x
  fold-late before [] x apart = refl
  fold-late before (y ∷ rows) x apart =
      ap (λ rs. fold (placed number) rs rows) (placed-swap before x y apart.0) ∙ fold-late (placed number before y) rows x apart.1

  -- the rows that pass may come first
  pub fold-parts : (p : Row → Bool) (before rows : List Row) → Apart rows → fold (placed number) before rows ≡ fold (placed number) before (filter p rows ++ filter (λ row. not (p row)) rows)
  fold-parts p before [] apart = refl
  fold-parts p before (row ∷ rows) apart =
      let later = fold-parts p (placed number before row) rows apart.1 in
      elim (cases_Bool (p row)) [
        | inl passes ↦ rw passes later
        | inr fails ↦
            let passing = filter p rows in
            let failing = filter (λ other. not (p other)) rows in
            rw fails (later
            ∙ (fold-append (placed number) (placed number before row) passing failing
            ∙ (ap (λ rs. fold (placed number) rs failing) (fold-late before passing row (each-filter (λ other. number row ≢ number other) p rows apart.0))
            ∙ sym (fold-append (placed number) before passing (row ∷ failing)))))
      ]

  pub by_number-parts : (p : Row → Bool) (rows : List Row) → Apart rows → by_number number rows ≡ by_number number (filter p rows ++ filter (λ row. not (p row)) rows)
  by_number-parts p rows apart = fold-parts p [] rows apart

  -- ---- one is added

  placed-last : (rows : List Row) (new : Row) → AllByRecursion (λ row. number row < number new) rows → placed number rows new ≡ rows ++ new ∷ []
  placed-last [] new below = refl
  placed-last (row ∷ rows) new below =
      let under = below.0 in
      let behind : ltb (number new) (number row) ≡ false = le-ltb (number new) (number row) (omega (arith, under)) in
      rw behind (ap (λ later. row ∷ later) (placed-last rows new below.1))

  each-fold : (P : Row → Type 0) (before rows : List Row) → AllByRecursion P before → AllByRecursion P rows → AllByRecursion P (fold (placed number) before rows)
  each-fold P before [] front back = front
  each-fold P before (row ∷ rows) front back = each-fold P (placed number before row) rows (each-placed number P before row back.0 front) back.1

  pub each-by_number : (P : Row → Type 0) (rows : List Row) → AllByRecursion P rows → AllByRecursion P (by_number number rows)
  each-by_number P rows all = each-fold P [] rows tt all

  -- the greatest stands last, wherever it came
  pub by_number-greatest : (front : List Row) (new : Row) (back : List Row) → AllByRecursion (λ row. number row < number new) (front ++ back) → by_number number (front ++ new ∷ back) ≡ by_number number (front ++ back) ++ new ∷ []
  by_number-greatest front new back below =
      let behind = each-back (λ row. number row < number new) front back below in
      fold-append (placed number) [] front (new ∷ back)
      ∙ (fold-late (fold (placed number) [] front) back new (each-weaker (λ row. number row < number new) (λ row. number new ≢ number row) (λ row under same. omega (arith, under, same)) back behind)
      ∙ (ap (λ rows. placed number rows new) (sym (fold-append (placed number) [] front back))
      ∙ placed-last (by_number number (front ++ back)) new (each-by_number (λ row. number row < number new) (front ++ back) below)))

  pub all-below : (n : ℕ) (rows : List Row) → AllByRecursion (λ row. number row < n) rows → list_all (λ row. ltb (number row) n) rows ≡ true
  all-below n [] all = refl
  all-below n (row ∷ rows) all = and_from (ltb (number row) n) (list_all (λ other. ltb (number other) n) rows) (lt-ltb (number row) n all.0) (all-below n rows all.1)

  -- ---- rows by their numbers

  pub any-by_number : (p : Row → Bool) (rows : List Row) → list_any p (by_number number rows) ≡ list_any p rows
  any-by_number p rows = sym (list_any-IsPermutation p rows (by_number number rows) (by_number-permutes number rows))

  kept_row : (Row → Bool) → Row → Option Row
  kept_row p row = cond (p row) (Some row) None

  kept-filter : (p : Row → Bool) (rows : List Row) → filter_map (kept_row p) rows ≡ filter p rows
  unfolding kept_row
  kept-filter p [] = refl
  kept-filter p (row ∷ rows) = elim (cases_Bool (p row)) [
    | inl passes ↦ rw passes (ap (λ rs. row ∷ rs) (kept-filter p rows))
    | inr fails ↦ rw fails (kept-filter p rows)
  ]

  kept-number : (p : Row → Bool) (row job : Row) → kept_row p row ≡ Some job → number job ≡ number row
  unfolding kept_row
  kept-number p row job is = elim (cases_Bool (p row)) [
    | inl passes ↦ let got : Some row ≡ Some job = rw passes at is in let same : row ≡ job = cc in ap number (sym same)
    | inr fails ↦ absurd (let e : None ≡ Some job = rw fails at is in cc)
  ]

  pub by_number-filter : (p : Row → Bool) (rows : List Row) → by_number number (filter p rows) ≡ filter p (by_number number rows)
  by_number-filter p rows =
      ap (by_number number) (sym (kept-filter p rows))
      ∙ (sym (filter_map-by_number number number (kept_row p) (kept-number p) rows) ∙ kept-filter p (by_number number rows))

  pub Apart-by_number : (rows : List Row) → IsDistinct nat_eq (map number rows) → Apart (by_number number rows)
  Apart-by_number rows distinct =
      Apart-distinct (by_number number rows)
      (IsDistinct-IsPermutation nat_eq eqb_flips (map number rows) (map number (by_number number rows)) (IsPermutation-map number rows (by_number number rows) (by_number-permutes number rows)) distinct)

  -- ---- one is changed, or taken away

  -- the row, or the new one where it has its number
  abbrev pub replaced : Row → Row → Row
  replaced new row = cond (eqb (number row) (number new)) new row

  pub none-replaced : (new : Row) (rows : List Row) → AllByRecursion (λ row. number row ≢ number new) rows → map (replaced new) rows ≡ rows
  none-replaced new [] apart = refl
  none-replaced new (row ∷ rows) apart = let other = ne_eqb (number row) (number new) apart.0 in rw other (ap (λ rs. row ∷ rs) (none-replaced new rows apart.1))

  pub found-within : (p : Row → Bool) (rows : List Row) → list_any p rows ≡ true → ltb (position_or_len p rows) (length rows) ≡ true
  found-within p [] there = absurd (let e : false ≡ true = there in cc)
  found-within p (row ∷ rows) there = elim (cases_Bool (p row)) [
    | inl here ↦ rw here (lt-ltb 0 (suc (length rows)) (omega arith))
    | inr other ↦
        let later = found-within p rows (rw other at there) in
        let below = ltb-true (position_or_len p rows) (length rows) later in
        rw other (lt-ltb (1 + position_or_len p rows) (suc (length rows)) (omega (arith, below)))
  ]

  same-number : (row new : Row) (rows : List Row) → eqb (number row) (number new) ≡ true → AllByRecursion (λ other. number row ≢ number other) rows → AllByRecursion (λ other. number other ≢ number new) rows
  same-number row new rows same apart =
      let is = eqb-true (number row) (number new) same in
      each-weaker (λ other. number row ≢ number other) (λ other. number other ≢ number new) (λ other differs e. differs (is ∙ sym e)) rows apart

  pub set-replaces : (new : Row) (rows : List Row) → Apart rows → list_any (λ row. eqb (number row) (number new)) rows ≡ true → set rows (position_or_len (λ row. eqb (number row) (number new)) rows) new ≡ map (replaced new) rows
  set-replaces new [] apart there = absurd (let e : false ≡ true = there in cc)
  set-replaces new (row ∷ rows) apart there = elim (cases_Bool (eqb (number row) (number new))) [
    | inl same ↦ rw same (ap (λ rs. new ∷ rs) (sym (none-replaced new rows (same-number row new rows same apart.0))))
    | inr other ↦ rw (other, one-add) (ap (λ rs. row ∷ rs) (set-replaces new rows apart.1 (rw other at there)))
  ]

  pub filter-all : (p : Row → Bool) (rows : List Row) → AllByRecursion (λ row. p row ≡ true) rows → filter p rows ≡ rows
  filter-all p [] all = refl
  filter-all p (row ∷ rows) all = rw (all.0) (ap (λ rs. row ∷ rs) (filter-all p rows all.1))

  pub remove-filters : (n : ℕ) (rows : List Row) → Apart rows → list_any (λ row. eqb (number row) n) rows ≡ true → remove rows (position_or_len (λ row. eqb (number row) n) rows) ≡ filter (λ row. not (eqb (number row) n)) rows
  remove-filters n [] apart there = absurd (let e : false ≡ true = there in cc)
  remove-filters n (row ∷ rows) apart there = elim (cases_Bool (eqb (number row) n)) [
    | inl same ↦
        let is = eqb-true (number row) n same in
        rw same (sym (filter-all (λ other. not (eqb (number other) n)) rows
        (each-weaker (λ other. number row ≢ number other) (λ other. not (eqb (number other) n) ≡ true) (λ other differs. ap not (ne_eqb (number other) n (λ e. differs (is ∙ sym e)))) rows apart.0)))
    | inr other ↦ rw (other, one-add) (ap (λ rs. row ∷ rs) (remove-filters n rows apart.1 (rw other at there)))
  ]
