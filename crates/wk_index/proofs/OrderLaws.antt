-- Where a title stands in a list in the order of titles.
use Rattle.std.proofs.Common.{◌≡◌, ℕ, zero, suc, ◌+◌, ◌-◌, take, subst, ◌<◌, ◌≤◌, Bool, true, false, List, [], ◌∷◌, length, map, get_or, Some, None, Err, ◌||◌, refl, sym, ap, ◌∙◌, inl, inr, arith}
use Rattle.std.specs.List.{AllPairs, list_any}
use Rattle.std.specs.List.Sorted.{IsBinarySearchResult}
use Rattle.std.specs.Ordering.{is_eq, is_lt, ordering_index}
use Rattle.std.specs.Cmp.{IsTotalOrder}
use Rattle.std.specs.declared.cmp.Ordering.{Ordering}
use Rattle.std.specs.declared.cmp.Ordering.TheVariants.{Less, Equal, Greater}
use Rattle.std.proofs.lemmas.Bool.{cases_lt, cases_eq, false≢true}
use Rattle.std.proofs.lemmas.Cmp.{nat_list_cmp_total, int_cmp_total, on_total, then_total}
use Rattle.std.proofs.lemmas.List.{get_or-map, length-map, length-take-le, get_or-take}
use Rattle.wk_good_rows.proofs.Sets.{same-title, title_eq_comm}
use Rattle.wk_text_rules.specs.Titles.{PageTitle, title_cmp, title_eq}
use Rattle.wk_page_rules.specs.PageRows.{Member}
use Rattle.wk_table_rows.specs.Members.{member_of}
use Rattle.wk_index.specs.InOrder.{IsInOrder, IsOnlyPlace}
use Rattle.wk_index.proofs.TitleLaws.{title_eq-true}

pub title_cmp_total : IsTotalOrder title_cmp
title_cmp_total = then_total (on_total (λ (t : PageTitle). t.ns) int_cmp_total) (on_total (λ (t : PageTitle). t.key) nat_list_cmp_total)

-- one more item, behind the one before it
pub AllPairs-more : {X : Type 0} (R : X → X → Type 0) → ((a b c : X) → R a b → R b c → R a c) → (items : List X) (i : ℕ) → 0 < i → i < length items → AllPairs R (take i items)
    → ((d : X) → R (get_or items (i - 1) d) (get_or items i d)) → AllPairs R (take (i + 1) items)
AllPairs-more R trans items i some inside pairs above a b d before within =
    let whole : length (take (i + 1) items) ≡ i + 1 = length-take-le (i + 1) items (omega arith) in
    let part : length (take i items) ≡ i = length-take-le i items (omega arith) in
    let a_is : get_or (take (i + 1) items) a d ≡ get_or items a d = get_or-take (i + 1) items a d (omega arith) in
    let b_is : get_or (take (i + 1) items) b d ≡ get_or items b d = get_or-take (i + 1) items b d (omega arith) in
    rw (a_is, b_is) (elim (cases_eq b i) [
      | inr lower ↦ subst (λ x. R x (get_or items b d)) (get_or-take i items a d (omega arith))
          (subst (λ y. R (get_or (take i items) a d) y) (get_or-take i items b d (omega arith)) (pairs a b d before (omega arith)))
      | inl last ↦ elim (cases_eq a (i - 1)) [
        | inl next ↦ rw (last, next) (above d)
        | inr lower ↦
            let step : R (get_or (take i items) a d) (get_or (take i items) (i - 1) d) = pairs a (i - 1) d (omega arith) (omega arith) in
            let low : R (get_or items a d) (get_or items (i - 1) d) =
            subst (λ x. R x (get_or items (i - 1) d)) (get_or-take i items a d (omega arith))
            (subst (λ y. R (get_or (take i items) a d) y) (get_or-take i items (i - 1) d (omega arith)) step) in
            rw last (trans (get_or items a d) (get_or items (i - 1) d) (get_or items i d) low (above d))
      ]
    ])

-- titles of which one stands before the other are two
pub apart-before : (a t : PageTitle) → title_cmp a t ≡ Less → title_eq t a ≡ false
apart-before a t e = sym (same-title a t) ∙ ap is_eq e

pub apart-after : (t a : PageTitle) → title_cmp t a ≡ Less → title_eq a t ≡ false
apart-after t a e = sym (same-title t a) ∙ ap is_eq e

pub apart-behind : (a t : PageTitle) → title_cmp t a ≡ Less → title_eq t a ≡ false
apart-behind a t e = title_eq_comm t a ∙ apart-after t a e

apart-greater : (a t : PageTitle) → title_cmp a t ≡ Greater → title_eq t a ≡ false
apart-greater a t e = sym (same-title a t) ∙ ap is_eq e

pub same-equal : (a t : PageTitle) → title_cmp a t ≡ Equal → a ≡ t
same-equal a t e = sym (title_eq-true t a (sym (same-title a t) ∙ ap is_eq e))

some_item : {X : Type 0} (items : List X) (k : ℕ) → k < length items → X
some_item [] k inside = absurd (omega arith)
some_item (x ∷ xs) k inside = x

index-least : (o : Ordering) → 0 ≤ ordering_index o
index-least o = omega arith

index-most : (o : Ordering) → ordering_index o ≤ 2
index-most Less = omega arith
index-most Equal = omega arith
index-most Greater = omega arith

-- a title before another is found at a place that isn't behind
index-mono : (a b t : PageTitle) → title_cmp a b ≡ Less → ordering_index (title_cmp a t) ≤ ordering_index (title_cmp b t)
index-mono a b t before = by (title_cmp b t) refl
  where
    by : (o : Ordering) → title_cmp b t ≡ o → ordering_index (title_cmp a t) ≤ ordering_index o
    by Less is = rw (title_cmp_total.trans a b t before is) (omega arith)
    by Equal is = rw (subst (λ x. title_cmp a x ≡ Less) (same-equal b t is) before) (omega arith)
    by Greater is = index-most (title_cmp a t)

module _ {X : Type 0} (title : X → PageTitle) (t : PageTitle) (items : List X) (order : IsInOrder title items) where
  pub only-found : (k : ℕ) → k < length items → ((d : X) → title_cmp (title (get_or items k d)) t ≡ Equal) → IsOnlyPlace title t items (Some k)
  only-found k inside equal = (
    inside,
    λ j d within apart.
        let same : title (get_or items k d) ≡ t = same-equal (title (get_or items k d)) t (equal d) in
        elim (cases_lt j k) [
          | inl before ↦ apart-before (title (get_or items j d)) t (subst (λ x. title_cmp (title (get_or items j d)) x ≡ Less) same (order j k d before inside))
          | inr over ↦ apart-behind (title (get_or items j d)) t (subst (λ x. title_cmp x (title (get_or items j d)) ≡ Less) same (order k j d (let ne : (j ≡ k → ⊥) = apart in elim (cases_eq j k) [ inl e ↦ absurd (ne e) | inr n ↦ omega arith ]) within))
        ],
  )

  index-rises : (i j : ℕ) (d : X) → i ≤ j → j < length items → ordering_index (title_cmp (title (get_or items i d)) t) ≤ ordering_index (title_cmp (title (get_or items j d)) t)
  index-rises i j d le inside = elim (cases_eq i j) [
    | inl same ↦ rw same (omega arith)
    | inr apart ↦ index-mono (title (get_or items i d)) (title (get_or items j d)) t (order i j d (omega arith) inside)
  ]

  pub only-none : (i : ℕ) → IsBinarySearchResult (λ y. title_cmp (title y) t) items (Err i) → IsOnlyPlace title t items None
  only-none i answer =
      let parts = answer index-rises in
      λ k d inside. elim (cases_lt k i) [
        | inl before ↦ apart-before (title (get_or items k d)) t (parts.0 k d (omega arith) before)
        | inr behind ↦ apart-greater (title (get_or items k d)) t (parts.1 k d behind inside)
      ]

-- ---- a test that only items with the title pass

any-nowhere : {X : Type 0} (q : X → Bool) (items : List X) → ((k : ℕ) (d : X) → k < length items → q (get_or items k d) ≡ false) → list_any q items ≡ false
any-nowhere q [] fails = refl
any-nowhere q (y ∷ ys) fails = rw (fails 0 y (omega arith), any-nowhere q ys (λ k d within. fails (suc k) d (omega arith))) refl

any-single : {X : Type 0} (q : X → Bool) (items : List X) (place : ℕ) (here : X) → place < length items → here ≡ get_or items place here
    → ((k : ℕ) (d : X) → k < length items → (k ≡ place → ⊥) → q (get_or items k d) ≡ false) → list_any q items ≡ q here
any-single q [] place here inside is others = absurd (omega arith)
any-single q (x ∷ xs) zero here inside is others =
    let none : list_any q xs ≡ false = any-nowhere q xs (λ k d within. others (suc k) d (omega arith) (λ e. absurd (omega arith))) in
    rw (none, is) (or-none (q x))
  where
    or-none : (b : Bool) → (b || false) ≡ b
    or-none true = refl
    or-none false = refl
any-single q (x ∷ xs) (suc place) here inside is others =
    rw (others 0 x (omega arith) (λ e. absurd (omega arith)))
    (any-single q xs place here (omega arith) is (λ k d within apart. others (suc k) d (omega arith) (λ e. apart (let same : k ≡ place = omega arith in same))))

module _ {X : Type 0} (title : X → PageTitle) (t : PageTitle) (q : X → Bool) (needs : (x : X) → title_eq t (title x) ≡ false → q x ≡ false) (items : List X) where
  pub any-at_place : (place : ℕ) (here : X) → IsOnlyPlace title t items (Some place) → here ≡ get_or items place here → list_any q items ≡ q here
  any-at_place place here only is = any-single q items place here only.0 is (λ k d within apart. needs (get_or items k d) (only.1 k d within apart))

  pub any-at_none : IsOnlyPlace title t items None → list_any q items ≡ false
  any-at_none only = any-nowhere q items (λ k d within. needs (get_or items k d) (only k d within))

-- ---- members as triples

pub order-triples : (rows : List (PageTitle × List ℕ × List ℕ)) → IsInOrder (λ row. row.0) rows → IsInOrder (λ (m : Member). m.category) (map member_of rows)
order-triples rows order i j d before within =
    let long : length (map member_of rows) ≡ length rows = length-map rows member_of in
    let e = some_item rows j (omega arith) in
    rw (get_or-map member_of rows i e d (omega arith), get_or-map member_of rows j e d (omega arith)) (order i j e before (omega arith))

pub order-triples_back : (rows : List (PageTitle × List ℕ × List ℕ)) → IsInOrder (λ (m : Member). m.category) (map member_of rows) → IsInOrder (λ row. row.0) rows
order-triples_back rows order i j d before within =
    let long : length (map member_of rows) ≡ length rows = length-map rows member_of in
    let at : title_cmp (get_or (map member_of rows) i (member_of d)).category (get_or (map member_of rows) j (member_of d)).category ≡ Less = order i j (member_of d) before (omega arith) in
    rw (get_or-map member_of rows i d (member_of d) (omega arith), get_or-map member_of rows j d (member_of d) (omega arith)) at at

pub IsInOrder-more : {X : Type 0} (title : X → PageTitle) (items : List X) (i : ℕ) → 0 < i → i < length items → IsInOrder title (take i items)
    → ((d : X) → title_cmp (title (get_or items (i - 1) d)) (title (get_or items i d)) ≡ Less) → IsInOrder title (take (i + 1) items)
IsInOrder-more title items i some inside order above =
    AllPairs-more (λ a b. title_cmp (title a) (title b) ≡ Less) (λ a b c first second. title_cmp_total.trans (title a) (title b) (title c) first second) items i some inside order above

pub less-of : (o : Ordering) → is_lt o ≡ true → o ≡ Less
less-of Less e = refl
less-of Equal e = absurd (false≢true e)
less-of Greater e = absurd (false≢true e)
