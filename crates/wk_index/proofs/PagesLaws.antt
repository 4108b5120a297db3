-- The pages of a title that a set finds, against those of the rules.
use Rattle.std.proofs.Common.{◌≡◌, ◌≢◌, ℕ, zero, suc, ◌+◌, ◌<◌, Bool, true, false, cond, eqb, ltb, ◌&&◌, ◌||◌, List, [], ◌∷◌, map, take, Some, None, refl, sym, ap, ◌∙◌, inl, inr, arith}
use Rattle.std.specs.Prelude.{slice_get}
use Rattle.std.specs.BTreeMap.{get}
use Rattle.std.specs.BTreeSet.{BTreeSet}
use Rattle.std.specs.List.{AllByRecursion, enumerate_from, filter, list_any}
use Rattle.std.specs.List.Sorted.{IsStrictlySortedBy}
use Rattle.std.specs.Ordering.{is_eq, is_lt, nat_cmp, ordering_then}
use Rattle.std.specs.declared.cmp.Ordering.{Ordering}
use Rattle.std.specs.declared.cmp.Ordering.TheVariants.{Less, Equal, Greater}
use Rattle.std.proofs.lemmas.Bool.{cases_Bool, ltb-true, lt-ltb, eqb-true, eqb-false, eq-eqb, ne_eqb, false≢true}
use Rattle.std.proofs.lemmas.Cmp.{nat_cmp_total}
use Rattle.std.proofs.lemmas.List.Kept.{IsStrictlySortedBy-filter}
use Rattle.std.proofs.lemmas.Map.Lookups.{btree_set_from_contains}
use Rattle.wk_text_rules.specs.Titles.{PageTitle, title_cmp}
use Rattle.wk_page_rules.specs.PageRows.{PageRows}
use Rattle.wk_index.specs.declared.named.Kind.{Kind}
use Rattle.wk_index.specs.Named.{Finds, Sets, has, is_above, is_in, is_in_found, listed, lists, page_lists}
use Rattle.wk_index.proofs.PlaceLaws.{lists-at}

-- ---- numbers in order

nat_cmp-less : (a b : ℕ) → a < b → nat_cmp a b ≡ Less
nat_cmp-less a b under = rw (lt-ltb a b under) refl

nat_cmp-exact : (a b : ℕ) → nat_cmp a b ≡ Equal → a ≡ b
nat_cmp-exact a b e = elim (cases_Bool (ltb a b)) [
  | inl under ↦ absurd (let fails : Less ≡ Equal = rw under at e in cc)
  | inr over ↦ elim (cases_Bool (eqb a b)) [
    | inl same ↦ eqb-true a b same
    | inr apart ↦ absurd (let fails : Greater ≡ Equal = rw (over, apart) at e in cc)
  ]
]

pub is_eq-nat_cmp : (a b : ℕ) → is_eq (nat_cmp a b) ≡ eqb b a
is_eq-nat_cmp a b = elim (cases_Bool (ltb a b)) [
  | inl under ↦ let low : a < b = ltb-true a b under in rw (under, ne_eqb b a (λ e. omega arith)) refl
  | inr over ↦ elim (cases_Bool (eqb a b)) [
    | inl same ↦ rw (over, same, eq-eqb b a (sym (eqb-true a b same))) refl
    | inr apart ↦ let ne : a ≢ b = eqb-false a b apart in rw (over, apart, ne_eqb b a (λ e. ne (sym e))) refl
  ]
]

is_lt-nat_cmp : (a b : ℕ) → is_lt (nat_cmp a b) ≡ ltb a b
is_lt-nat_cmp a b = elim (cases_Bool (ltb a b)) [
  | inl under ↦ rw under refl
  | inr over ↦ elim (cases_Bool (eqb a b)) [ inl same ↦ rw (over, same) refl | inr apart ↦ rw (over, apart) refl ]
]

-- ---- a test of the items of a list that pass another

module _ {X : Type 0} (p q : X → Bool) where
  pub any-filter : (xs : List X) → list_any q (filter p xs) ≡ list_any (λ x. p x && q x) xs
  any-filter [] = refl
  any-filter (x ∷ xs) = elim (cases_Bool (p x)) [
    | inl holds ↦ rw (holds, any-filter xs) refl
    | inr fails ↦ rw (fails, any-filter xs) refl
  ]

pub any-map : {X Y : Type 0} (f : X → Y) (q : Y → Bool) (xs : List X) → list_any q (map f xs) ≡ list_any (λ x. q (f x)) xs
any-map f q [] = refl
any-map f q (x ∷ xs) = rw (any-map f q xs) refl

pub any-same : {X : Type 0} (p q : X → Bool) → ((x : X) → p x ≡ q x) → (xs : List X) → list_any p xs ≡ list_any q xs
any-same p q same [] = refl
any-same p q same (x ∷ xs) = rw (same x, any-same p q same xs) refl

-- a fact that the items have no part in
any-out : {X : Type 0} (p : X → Bool) (b : Bool) (xs : List X) → list_any (λ x. p x && b) xs ≡ (list_any p xs && b)
any-out p b [] = refl
any-out p b (x ∷ xs) = rw (any-out p b xs) (either (p x) (list_any p xs) b)
  where
    either : (x y z : Bool) → ((x && z) || (y && z)) ≡ ((x || y) && z)
    either true true true = refl
    either true true false = refl
    either true false true = refl
    either true false false = refl
    either false y z = refl

-- a number that is above another
is_above-is : (above n : ℕ) → is_above above n ≡ ltb above n
is_above-is above n = and-true (is_lt (nat_cmp above n)) ∙ is_lt-nat_cmp above n
  where
    and-true : (b : Bool) → (b && true) ≡ b
    and-true true = refl
    and-true false = refl

-- ---- the pages by the rules

module _ (test : PageRows → Bool) where
  -- the page is among those from a number on, and its rows pass
  abbrev pub found : ℕ → List PageRows → ℕ → Bool
  found n stored page = list_any (λ entry. eqb entry.0 page && test entry.1) (enumerate_from n stored)

  found-none : (n : ℕ) (stored : List PageRows) (page : ℕ) → page < n → found n stored page ≡ false
  found-none n [] page under = refl
  found-none n (rows ∷ stored) page under = rw (ne_eqb n page (λ e. omega arith), found-none (n + 1) stored page (omega arith)) refl

  found-at : (n : ℕ) (stored : List PageRows) (place page : ℕ) → page ≡ n + place → found n stored page ≡ elim (slice_get stored place) [ None ↦ false | Some rows ↦ test rows ]
  found-at n [] place page at = refl
  found-at n (rows ∷ stored) zero page at =
      let same : n ≡ page = omega arith in
      rw (eq-eqb n page same, found-none (n + 1) stored page (omega arith)) (or-none (test rows))
    where
      or-none : (b : Bool) → (b || false) ≡ b
      or-none true = refl
      or-none false = refl
  found-at n (rows ∷ stored) (suc place) page at = rw (ne_eqb n page (λ e. omega arith)) (found-at (n + 1) stored place page (omega arith))

  pub listed-rise : (n : ℕ) (stored : List PageRows) (above m : ℕ) → m < n
      → AllByRecursion (λ page. nat_cmp m page ≡ Less) (map (λ entry. entry.0) (filter (λ entry. ltb above entry.0 && test entry.1) (enumerate_from n stored)))
  listed-rise n [] above m under = tt
  listed-rise n (rows ∷ stored) above m under =
      let later = listed-rise (n + 1) stored above m (omega arith) in
      elim (ltb above n && test rows) as (λ b. AllByRecursion (λ page. nat_cmp m page ≡ Less)
      (map (λ entry. entry.0) (cond b ((n, rows) ∷ filter (λ entry. ltb above entry.0 && test entry.1) (enumerate_from (n + 1) stored)) (filter (λ entry. ltb above entry.0 && test entry.1) (enumerate_from (n + 1) stored))))) [
        | true ↦ (nat_cmp-less m n under, later)
        | false ↦ later
      ]

  pub listed-in_order : (n : ℕ) (stored : List PageRows) (above : ℕ)
      → IsStrictlySortedBy nat_cmp (map (λ entry. entry.0) (filter (λ entry. ltb above entry.0 && test entry.1) (enumerate_from n stored)))
  unfolding IsStrictlySortedBy
  listed-in_order n [] above = tt
  listed-in_order n (rows ∷ stored) above =
      let later = listed-in_order (n + 1) stored above in
      elim (ltb above n && test rows) as (λ b. IsStrictlySortedBy nat_cmp
      (map (λ entry. entry.0) (cond b ((n, rows) ∷ filter (λ entry. ltb above entry.0 && test entry.1) (enumerate_from (n + 1) stored)) (filter (λ entry. ltb above entry.0 && test entry.1) (enumerate_from (n + 1) stored))))) [
        | true ↦ (listed-rise (n + 1) stored above n (omega arith), later)
        | false ↦ later
      ]

  at-number : (above page n : ℕ) (rows : PageRows) → ((ltb above n && test rows) && is_eq (nat_cmp page n)) ≡ ((eqb n page && test rows) && ltb above page)
  at-number above page n rows = rw (is_eq-nat_cmp page n) (elim (cases_Bool (eqb n page)) [
    | inl same ↦ let e : n ≡ page = eqb-true n page same in rw (same, e) (turned (ltb above page) (test rows))
    | inr apart ↦ rw apart (none (ltb above n && test rows))
  ])
    where
      turned : (a b : Bool) → ((a && b) && true) ≡ (b && a)
      turned true true = refl
      turned true false = refl
      turned false true = refl
      turned false false = refl

      none : (a : Bool) → (a && false) ≡ false
      none true = refl
      none false = refl

  -- which pages are listed
  pub listed-has : (stored : List PageRows) (above page : ℕ)
      → list_any (λ n. is_eq (nat_cmp page n)) (map (λ entry. entry.0) (filter (λ entry. ltb above entry.0 && test entry.1) (enumerate_from 1 stored))) ≡ (found 1 stored page && ltb above page)
  listed-has stored above page =
      any-map (λ (entry : ℕ × PageRows). entry.0) (λ n. is_eq (nat_cmp page n)) (filter (λ entry. ltb above entry.0 && test entry.1) (enumerate_from 1 stored))
      ∙ any-filter (λ (entry : ℕ × PageRows). ltb above entry.0 && test entry.1) (λ entry. is_eq (nat_cmp page entry.0)) (enumerate_from 1 stored)
      ∙ any-same (λ (entry : ℕ × PageRows). (ltb above entry.0 && test entry.1) && is_eq (nat_cmp page entry.0)) (λ entry. (eqb entry.0 page && test entry.1) && ltb above page)
      (λ entry. at-number above page entry.0 entry.1) (enumerate_from 1 stored)
      ∙ any-out (λ (entry : ℕ × PageRows). eqb entry.0 page && test entry.1) (ltb above page) (enumerate_from 1 stored)

-- the rows of a page by its number
found-is : (kind : Kind) (stored : List PageRows) (title : PageTitle) (page : ℕ) → found (λ rows. lists kind rows title) 1 stored page ≡ page_lists kind stored title page
found-is kind stored title zero = found-none (λ rows. lists kind rows title) 1 stored 0 (omega arith)
found-is kind stored title (suc place) = found-at (λ rows. lists kind rows title) 1 stored place (suc place) (omega arith) ∙ sym (lists-at kind stored title place)

pub then-eq : (a b : Ordering) → is_eq (ordering_then a b) ≡ (is_eq a && is_eq b)
then-eq Less b = refl
then-eq Equal b = refl
then-eq Greater b = refl

-- ---- the pages by the set

module _ (above : ℕ) (test : ℕ → Bool) where
  at-page : (page n : ℕ) → (is_above above n && (test n && is_eq (nat_cmp page n))) ≡ (is_eq (nat_cmp page n) && (test page && ltb above page))
  at-page page n = rw (is_above-is above n, is_eq-nat_cmp page n) (elim (cases_Bool (eqb n page)) [
    | inl same ↦ let e : n ≡ page = eqb-true n page same in rw (same, e) (turned (ltb above page) (test page))
    | inr apart ↦ rw apart (none (ltb above n) (test n))
  ])
    where
      turned : (a b : Bool) → (a && (b && true)) ≡ (b && a)
      turned true true = refl
      turned true false = refl
      turned false true = refl
      turned false false = refl

      none : (a b : Bool) → (a && (b && false)) ≡ false
      none true true = refl
      none true false = refl
      none false b = refl

  set-has : (pages : List ℕ) (page : ℕ) → list_any (λ n. is_eq (nat_cmp page n)) (filter test (filter (is_above above) pages)) ≡ (is_in page pages && (test page && ltb above page))
  set-has pages page =
      any-filter test (λ n. is_eq (nat_cmp page n)) (filter (is_above above) pages)
      ∙ any-filter (is_above above) (λ n. test n && is_eq (nat_cmp page n)) pages
      ∙ any-same (λ n. is_above above n && (test n && is_eq (nat_cmp page n))) (λ n. is_eq (nat_cmp page n) && (test page && ltb above page)) (at-page page) pages
      ∙ any-out (λ n. is_eq (nat_cmp page n)) (test page && ltb above page) pages

-- ---- both are the same

-- the pages of a set in which each page is that has the title
pages-are : (kind : Kind) (stored : List PageRows) (pages : List ℕ) (title : PageTitle) (above : ℕ)
    → IsStrictlySortedBy nat_cmp pages → ((page : ℕ) → page_lists kind stored title page ≡ true → is_in page pages ≡ true)
    → filter (page_lists kind stored title) (filter (is_above above) pages) ≡ map (λ page. page.0) (filter (λ page. ltb above page.0 && lists kind page.1 title) (enumerate_from 1 stored))
pages-are kind stored pages title above order finds =
    btree_set_from_contains nat_cmp_total
    (record { keys = filter (page_lists kind stored title) (filter (is_above above) pages) })
    (record { keys = map (λ page. page.0) (filter (λ page. ltb above page.0 && lists kind page.1 title) (enumerate_from 1 stored)) })
    (IsStrictlySortedBy-filter nat_cmp (page_lists kind stored title) (filter (is_above above) pages) (IsStrictlySortedBy-filter nat_cmp (is_above above) pages order))
    (listed-in_order (λ rows. lists kind rows title) 1 stored above)
    (λ page. set-has above (page_lists kind stored title) pages page ∙ same page
    ∙ sym (listed-has (λ rows. lists kind rows title) stored above page ∙ ap (λ b. b && ltb above page) (found-is kind stored title page)))
    nat_cmp-exact
  where
    same : (page : ℕ) → (is_in page pages && (page_lists kind stored title page && ltb above page)) ≡ (page_lists kind stored title page && ltb above page)
    same page = elim (cases_Bool (page_lists kind stored title page)) [
      | inl holds ↦ rw (finds page holds, holds) refl
      | inr fails ↦ rw fails (and-none (is_in page pages))
    ]
      where
        and-none : (b : Bool) → (b && false) ≡ false
        and-none true = refl
        and-none false = refl

-- the pages that are found by a title, among those that its set has
pub pages-listed : (kind : Kind) (stored : List PageRows) (named : Sets) (pages : BTreeSet ℕ) (title : PageTitle) (above most : ℕ)
    → get title_cmp named title ≡ Some pages → IsStrictlySortedBy nat_cmp pages.keys → Finds kind stored named
    → take most (filter (page_lists kind stored title) (filter (is_above above) pages.keys)) ≡ listed kind stored title above most
pages-listed kind stored named pages title above most here order finds =
    ap (take most) (pages-are kind stored pages.keys title above order
    (λ page there. sym (ap (λ o. is_in_found (λ (s : BTreeSet ℕ). s.keys) o page) here) ∙ finds title page there))

in-order-none : IsStrictlySortedBy nat_cmp []
unfolding IsStrictlySortedBy
in-order-none = tt

-- no page has a title that no page is found by
pub none-listed : (kind : Kind) (stored : List PageRows) (named : Sets) (title : PageTitle) (above most : ℕ)
    → get title_cmp named title ≡ None → Finds kind stored named → [] ≡ listed kind stored title above most
none-listed kind stored named title above most none finds =
    sym (take-none most [] refl) ∙ ap (take most) (pages-are kind stored [] title above in-order-none (λ page there. absurd (false≢true (sym (ap (λ o. is_in_found (λ (s : BTreeSet ℕ). s.keys) o page) none) ∙ finds title page there))))
  where
    take-none : (n : ℕ) (xs : List ℕ) → xs ≡ [] → take n xs ≡ []
    take-none zero xs none = refl
    take-none (suc n) [] none = refl
    take-none (suc n) (x ∷ xs) none = absurd (let fails : x ∷ xs ≡ [] = none in cc)
