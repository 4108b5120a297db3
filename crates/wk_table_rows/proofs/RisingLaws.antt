-- Where a number stands in a list whose numbers rise.
use Rattle.std.proofs.Common.{◌≡◌, ℕ, ◌+◌, ◌-◌, min, map, take, set, subst, ◌<◌, ◌≤◌, Bool, true, false, cond, eqb, ltb, List, [], ◌∷◌, length, get_or, Some, None, Err, refl, sym, ap, inl, inr, arith}
use Rattle.std.specs.List.{position, position_or_len}
use Rattle.std.specs.List.Sorted.{IsBinarySearchResult}
use Rattle.std.specs.Ordering.{nat_cmp, ordering_index}
use Rattle.std.specs.declared.cmp.Ordering.TheVariants.{Less, Equal, Greater}
use Rattle.std.proofs.lemmas.Bool.{cases_lt, cases_eq, lt-ltb, ne_eqb, eq-eqb}
use Rattle.std.proofs.lemmas.Bool.Decides.{nat_tests}
use Rattle.std.proofs.lemmas.Cmp.{ranked}
use Rattle.std.proofs.lemmas.List.{get_or-map, length-map, length-take, length-take-le, get_or-take, length-set, get_or-set_same, get_or-set_other}
use Rattle.std.proofs.lemmas.List.Sums.{position_or_len_is}
use Rattle.wk_table_rows.specs.Rising.{IsRising}

-- the first item that passes
pub position-first : {X : Type 0} (p : X → Bool) (items : List X) (k : ℕ) (d : X) → k < length items
    → ((j : ℕ) → j < k → p (get_or items j d) ≡ false) → p (get_or items k d) ≡ true → Some k ≡ position p items
position-first p items k d inside before here =
    let at : position_or_len p items ≡ k = position_or_len_is p items k d (omega arith) before (λ _. here) in
    rw (at, lt-ltb k (length items) inside) refl

past-end : (n : ℕ) → None ≡ cond (ltb n n) (Some n) None
past-end n = let e : ltb n n ≡ false = grind (arith, nat_tests) in rw e refl

-- no item passes
pub position-none : {X : Type 0} (p : X → Bool) (items : List X) → ((k : ℕ) (d : X) → k < length items → p (get_or items k d) ≡ false) → None ≡ position p items
position-none p [] fails = refl
position-none p (x ∷ xs) fails =
    let at : position_or_len p (x ∷ xs) ≡ length (x ∷ xs) = position_or_len_is p (x ∷ xs) (length (x ∷ xs)) x (omega arith) (λ k l. fails k x l) (λ l. absurd (omega arith)) in
    rw at (past-end (length (x ∷ xs)))

-- a list with a place has an item
some_item : {X : Type 0} (items : List X) (k : ℕ) → k < length items → X
some_item [] k inside = absurd (omega arith)
some_item (x ∷ xs) k inside = x

module _ {X : Type 0} (number : X → ℕ) (n : ℕ) (items : List X) (rising : IsRising number items) where
  -- the number that is found
  pub position-found : (k : ℕ) → k < length items → ((d : X) → nat_cmp (number (get_or items k d)) n ≡ Equal) → Some k ≡ position (λ item. eqb (number item) n) items
  position-found k inside equal =
      let d : X = some_item items k inside in
      let same : number (get_or items k d) ≡ n = ranked (number (get_or items k d)) n Equal (sym (equal d)) in
      position-first (λ item. eqb (number item) n) items k d inside
      (λ j l. ne_eqb (number (get_or items j d)) n (λ e. let below : number (get_or items j d) < number (get_or items k d) = rising j k d l inside in omega arith))
      (eq-eqb (number (get_or items k d)) n same)

  index-mono : (a b : ℕ) → a ≤ b → ordering_index (nat_cmp a n) ≤ ordering_index (nat_cmp b n)
  index-mono a b le = grind (arith, nat_tests)

  not-less : (a : ℕ) → nat_cmp a n ≡ Less → eqb a n ≡ false
  not-less a less = let below : a < n = ranked a n Less (sym less) in ne_eqb a n (λ e. omega arith)

  not-greater : (a : ℕ) → nat_cmp a n ≡ Greater → eqb a n ≡ false
  not-greater a greater = let above : n < a = ranked a n Greater (sym greater) in ne_eqb a n (λ e. omega arith)

  le_of : (i j : ℕ) (d : X) → i ≤ j → j < length items → number (get_or items i d) ≤ number (get_or items j d)
  le_of i j d le inside = elim (cases_eq i j) [
    | inl same ↦ rw same (omega arith)
    | inr apart ↦ (let before : i < j = omega arith in let below : number (get_or items i d) < number (get_or items j d) = rising i j d before inside in omega arith)
  ]

  -- the number that isn't found
  pub position-absent : (i : ℕ) → IsBinarySearchResult (λ y. nat_cmp (number y) n) items (Err i) → None ≡ position (λ item. eqb (number item) n) items
  position-absent i answer =
      let parts = answer (λ j k d le inside. index-mono (number (get_or items j d)) (number (get_or items k d)) (le_of j k d le inside)) in
      position-none (λ item. eqb (number item) n) items (λ k d inside. elim (cases_lt k i) [
        | inl before ↦ not-less (number (get_or items k d)) (parts.0 k d (omega arith) before)
        | inr behind ↦ not-greater (number (get_or items k d)) (parts.1 k d behind inside)
      ])

-- one more number, above the one before it
pub IsRising-more : {X : Type 0} (number : X → ℕ) (items : List X) (i : ℕ) → 0 < i → i < length items → IsRising number (take i items)
    → ((d : X) → number (get_or items (i - 1) d) < number (get_or items i d)) → IsRising number (take (i + 1) items)
IsRising-more number items i some inside rising above a b d before within =
    let whole : length (take (i + 1) items) ≡ i + 1 = length-take-le (i + 1) items (omega arith) in
    let part : length (take i items) ≡ i = length-take-le i items (omega arith) in
    let a_is : get_or (take (i + 1) items) a d ≡ get_or items a d = get_or-take (i + 1) items a d (omega arith) in
    let b_is : get_or (take (i + 1) items) b d ≡ get_or items b d = get_or-take (i + 1) items b d (omega arith) in
    rw (a_is, b_is) (elim (cases_eq b i) [
      | inr lower ↦ subst (λ x. number x < number (get_or items b d)) (get_or-take i items a d (omega arith))
          (subst (λ y. number (get_or (take i items) a d) < number y) (get_or-take i items b d (omega arith)) (rising a b d before (omega arith)))
      | inl last ↦ elim (cases_eq a (i - 1)) [
        | inl next ↦ rw (last, next) (above d)
        | inr lower ↦
            let step : number (get_or (take i items) a d) < number (get_or (take i items) (i - 1) d) = rising a (i - 1) d (omega arith) (omega arith) in
            let low : number (get_or items a d) < number (get_or items (i - 1) d) =
            subst (λ x. number x < number (get_or items (i - 1) d)) (get_or-take i items a d (omega arith))
            (subst (λ y. number (get_or (take i items) a d) < number y) (get_or-take i items (i - 1) d (omega arith)) step) in
            let high : number (get_or items (i - 1) d) < number (get_or items i d) = above d in
            rw last (omega arith)
      ]
    ])

-- a number that stays
pub IsRising-set : {X : Type 0} (number : X → ℕ) (items : List X) (k : ℕ) (y : X) → IsRising number items
    → ((d : X) → number y ≡ number (get_or items k d)) → IsRising number (set items k y)
IsRising-set number items k y rising same a b d before within =
    let long : length (set items k y) ≡ length items = length-set items k y in
    let stays : (j : ℕ) → j < length items → number (get_or (set items k y) j d) ≡ number (get_or items j d) = λ j inside. elim (cases_eq j k) [
      | inl here ↦ rw (here, get_or-set_same items k y d (subst (λ t. t < length items) here inside)) (same d)
      | inr there ↦ ap number (get_or-set_other items k j y d there)
    ] in
    rw (stays a (omega arith), stays b (omega arith)) (rising a b d before (omega arith))

-- a front of the list
pub IsRising-take : {X : Type 0} (number : X → ℕ) (items : List X) (n : ℕ) → IsRising number items → IsRising number (take n items)
IsRising-take number items n rising a b d before within =
    let short : length (take n items) ≡ min n (length items) = length-take n items in
    rw (get_or-take n items a d (omega arith), get_or-take n items b d (omega arith)) (rising a b d before (omega arith))

pub IsRising-map : {X : Type 0} (number : X → ℕ) (items : List X) → IsRising number items → IsRising (λ n. n) (map number items)
IsRising-map number items rising a b d before within =
    let long : length (map number items) ≡ length items = length-map items number in
    let e = some_item items b (omega arith) in
    rw (get_or-map number items a e d (omega arith), get_or-map number items b e d (omega arith)) (rising a b e before (omega arith))
