-- Lines in their order: a list that is in order, and is those lines in another order, is the one that the rules give.
use Rattle.std.proofs.Common.{◌≡◌, ℕ, suc, ◌+◌, ◌≤◌, ◌<◌, Bool, true, false, cond, List, [], ◌∷◌, length, map, get_or, refl, sym, ap, ◌∙◌, inl, inr, arith}
use Rattle.std.specs.Cmp.{IsTotalOrder, IsStrictWeakOrder}
use Rattle.std.specs.Cmp.Lexicographic.{slice_cmp}
use Rattle.std.specs.List.{AllByRecursion, fold, sum_by}
use Rattle.std.specs.List.Sorted.{IsPermutation, IsSortedBy}
use Rattle.std.specs.Ordering.{int_cmp, is_lt, nat_cmp, ordering_reverse, ordering_then}
use Rattle.std.specs.declared.cmp.Ordering.{Ordering}
use Rattle.std.specs.declared.cmp.Ordering.TheVariants.{Less, Equal, Greater}
use Rattle.std.proofs.lemmas.Bool.{cases_Bool}
use Rattle.std.proofs.lemmas.Cmp.{back_total, int_cmp_total, lists_total, nat_cmp_total, on_total, ranked, tied_itself, then_total}
use Rattle.std.proofs.lemmas.List.Recursion.{is_sum_by}
use Rattle.std.proofs.lemmas.List.Sorted.{IsPermutation-map, ranks_by, sorted_far, sum_by-IsPermutation}
use Rattle.std.proofs.lemmas.Map.Text.{is_eq-slice_cmp}
use Rattle.wk_text_rules.specs.Titles.{PageTitle, title_cmp, title_eq}
use Rattle.wk_view_laws.proofs.PlanLemmas.{title_eq-true}
use Rattle.wk_report_rules.specs.Reports.{Line, in_order, line_cmp, line_placed}

-- ---- the order of lines

pub title_cmp_total : IsTotalOrder title_cmp
title_cmp_total = then_total (on_total (λ (t : PageTitle). t.ns) int_cmp_total) (on_total (λ (t : PageTitle). t.key) (lists_total nat_cmp_total))

pub line_cmp_total : IsTotalOrder line_cmp
line_cmp_total = then_total (back_total (on_total (λ (l : Line). l.count) nat_cmp_total)) (on_total (λ (l : Line). l.titles) (lists_total title_cmp_total))

-- the first stands before the second
abbrev pub line_lt : Line → Line → Bool
line_lt a b = is_lt (line_cmp a b)

pub line_lt_order : IsStrictWeakOrder line_lt
line_lt_order = ranks_by line_cmp_total (λ (l : Line). l)

then-equal : (a b : Ordering) → ordering_then a b ≡ Equal → (a ≡ Equal) × (b ≡ Equal)
then-equal Less b e = absurd cc
then-equal Equal b e = (refl, e)
then-equal Greater b e = absurd cc

number-equal : (a b : ℕ) → nat_cmp a b ≡ Equal → a ≡ b
number-equal a b e = ranked a b Equal (sym e)

title-equal : (a b : PageTitle) → title_cmp a b ≡ Equal → a ≡ b
title-equal a b e = title_eq-true a b (title_eq-equal a b e)
  where
    title_eq-equal : (a b : PageTitle) → title_cmp a b ≡ Equal → title_eq a b ≡ true
    title_eq-equal a b e =
        let parts = then-equal (int_cmp a.ns b.ns) (slice_cmp nat_cmp a.key b.key) e in
        rw (parts.0, sym (is_eq-slice_cmp a.key b.key), parts.1) refl

titles-equal : (xs ys : List PageTitle) → slice_cmp title_cmp xs ys ≡ Equal → xs ≡ ys
titles-equal [] [] e = refl
titles-equal [] (y ∷ ys) e = absurd cc
titles-equal (x ∷ xs) [] e = absurd cc
titles-equal (x ∷ xs) (y ∷ ys) e =
    let parts = then-equal (title_cmp x y) (slice_cmp title_cmp xs ys) e in
    let first = title-equal x y parts.0 in
    let later = titles-equal xs ys parts.1 in
    λ i. first i ∷ later i

line-equal : (a b : Line) → line_cmp a b ≡ Equal → a ≡ b
line-equal a b e =
    let parts = then-equal (nat_cmp b.count a.count) (slice_cmp title_cmp a.titles b.titles) e in
    let count : a.count ≡ b.count = sym (number-equal b.count a.count parts.0) in
    let titles = titles-equal a.titles b.titles parts.1 in
    λ i. record { count = count i; titles = titles i }

-- lines of which neither stands before the other are one
neither : (a b : Line) → line_lt a b ≡ false → line_lt b a ≡ false → a ≡ b
neither a b ab ba = by (line_cmp a b) refl
  where
    by : (o : Ordering) → line_cmp a b ≡ o → a ≡ b
    by Less e = absurd (let f : true ≡ false = sym (ap is_lt e) ∙ ab in cc)
    by Equal e = line-equal a b e
    by Greater e = absurd (let f : true ≡ false = sym (ap is_lt (line_cmp_total.antisymm b a ∙ ap ordering_reverse e)) ∙ ba in cc)

less : (a b : Line) → line_lt a b ≡ true → line_cmp a b ≡ Less
less a b is = by (line_cmp a b) is
  where
    by : (o : Ordering) → is_lt o ≡ true → o ≡ Less
    by Less e = refl
    by Equal e = absurd cc
    by Greater e = absurd cc

-- one that stands before another doesn't stand behind it
not-behind : (a b : Line) → line_lt a b ≡ true → line_lt b a ≡ false
not-behind a b is = ap is_lt (line_cmp_total.antisymm b a ∙ ap ordering_reverse (less a b is))

-- what doesn't stand before a line doesn't stand before one that stands before it
before-both : (new line other : Line) → line_lt new line ≡ true → line_lt other line ≡ false → line_lt other new ≡ false
before-both new line other is past = elim (cases_Bool (line_lt other new)) [
  | inr none ↦ none
  | inl before ↦ absurd (let f : true ≡ false = sym (ap is_lt (line_cmp_total.trans other new line (less other new before) (less new line is))) ∙ past in cc)
]

-- ---- lists in order

abbrev pub Sorted : List Line → Type 0
Sorted [] = Unit {0}
Sorted (line ∷ lines) = AllByRecursion (λ (other : Line). line_lt other line ≡ false) lines × Sorted lines

All-placed : (P : Line → Type 0) (lines : List Line) (new : Line) → AllByRecursion P lines → P new → AllByRecursion P (line_placed lines new)
All-placed P [] new all here = (here, tt)
All-placed P (line ∷ lines) new all here = by (line_lt new line) (All-placed P lines new all.1 here)
  where
    by : (b : Bool) → AllByRecursion P (line_placed lines new) → AllByRecursion P (cond b (new ∷ line ∷ lines) (line ∷ line_placed lines new))
    by true later = (here, all)
    by false later = (all.0, later)

all-weaker : (P Q : Line → Type 0) → ((x : Line) → P x → Q x) → (xs : List Line) → AllByRecursion P xs → AllByRecursion Q xs
all-weaker P Q f [] all = tt
all-weaker P Q f (x ∷ xs) all = (f x all.0, all-weaker P Q f xs all.1)

Sorted-placed : (lines : List Line) (new : Line) → Sorted lines → Sorted (line_placed lines new)
Sorted-placed [] new up = (tt, tt)
Sorted-placed (line ∷ lines) new up = by (line_lt new line) refl (Sorted-placed lines new up.1)
  where
    by : (b : Bool) → line_lt new line ≡ b → Sorted (line_placed lines new) → Sorted (cond b (new ∷ line ∷ lines) (line ∷ line_placed lines new))
    by true is later =
        ((not-behind new line is, all-weaker (λ (other : Line). line_lt other line ≡ false) (λ (other : Line). line_lt other new ≡ false) (λ other past. before-both new line other is past) lines up.0), up)
    by false is later = (All-placed (λ (other : Line). line_lt other line ≡ false) lines new up.0 is, later)

Sorted-fold : (lines done : List Line) → Sorted done → Sorted (fold line_placed done lines)
Sorted-fold [] done up = up
Sorted-fold (line ∷ lines) done up = Sorted-fold lines (line_placed done line) (Sorted-placed done line up)

-- ---- the same lines, by how many of them pass each test

abbrev weight : Bool → ℕ
weight true = 1
weight false = 0

abbrev count : (Line → Bool) → List Line → ℕ
count p [] = 0
count p (x ∷ xs) = weight (p x) + count p xs

abbrev Same : List Line → List Line → Type 0
Same xs ys = (p : Line → Bool) → count p xs ≡ count p ys

count-is : (p : Line → Bool) (xs : List Line) → count p xs ≡ sum_by (λ x. weight (p x)) xs
count-is p xs = is_sum_by (count p) (λ x. weight (p x)) refl (λ x xs. refl) xs

count-placed : (p : Line → Bool) (lines : List Line) (new : Line) → count p (line_placed lines new) ≡ weight (p new) + count p lines
count-placed p [] new = refl
count-placed p (line ∷ lines) new = by (line_lt new line) (count-placed p lines new)
  where
    by : (b : Bool) → count p (line_placed lines new) ≡ weight (p new) + count p lines → count p (cond b (new ∷ line ∷ lines) (line ∷ line_placed lines new)) ≡ weight (p new) + (weight (p line) + count p lines)
    by true later = refl
    by false later = omega (arith, later)

count-fold : (p : Line → Bool) (lines done : List Line) → count p (fold line_placed done lines) ≡ count p lines + count p done
count-fold p [] done = omega arith
count-fold p (line ∷ lines) done =
    let here = count-placed p done line in
    let later = count-fold p lines (line_placed done line) in
    omega (arith, here, later)

Same-behind : (z w : Line) (zs ws : List Line) → Same (z ∷ zs) (w ∷ ws) → z ≡ w → Same zs ws
Same-behind z w zs ws same is p =
    let whole : weight (p z) + count p zs ≡ weight (p w) + count p ws = same p in
    let first : weight (p z) ≡ weight (p w) = ap (λ (x : Line). weight (p x)) is in
    omega (arith, whole, first)

-- no line behind the first stands before it
none-before : (z : Line) (zs : List Line) → Sorted (z ∷ zs) → count (λ x. line_lt x z) (z ∷ zs) ≡ 0
none-before z zs up =
    let own : weight (line_lt z z) ≡ 0 = ap (λ o. weight (is_lt o)) (tied_itself line_cmp_total z) in
    let later : count (λ x. line_lt x z) zs ≡ 0 = none zs up.0 in
    omega (arith, own, later)
  where
    none : (xs : List Line) → AllByRecursion (λ (other : Line). line_lt other z ≡ false) xs → count (λ x. line_lt x z) xs ≡ 0
    none [] all = refl
    none (x ∷ xs) all =
        let own : weight (line_lt x z) ≡ 0 = ap weight all.0 in
        let later : count (λ x. line_lt x z) xs ≡ 0 = none xs all.1 in
        omega (arith, own, later)

first-not-before : (z w : Line) (zs ws : List Line) → Sorted (z ∷ zs) → Same (z ∷ zs) (w ∷ ws) → line_lt w z ≡ false
first-not-before z w zs ws up same = by (line_lt w z) refl
  where
    total : weight (line_lt w z) + count (λ x. line_lt x z) ws ≡ 0
    total = sym (same (λ x. line_lt x z)) ∙ none-before z zs up

    by : (b : Bool) → line_lt w z ≡ b → line_lt w z ≡ false
    by false is = is
    by true is = absurd (let one : weight (line_lt w z) ≡ 1 = ap weight is in let all = total in omega (arith, one, all))

one-order : (zs ws : List Line) → Sorted zs → Sorted ws → Same zs ws → zs ≡ ws
one-order [] [] up up' same = refl
one-order [] (w ∷ ws) up up' same = absurd (let e : 0 ≡ 1 + count (λ x. true) ws = same (λ x. true) in omega (arith, e))
one-order (z ∷ zs) [] up up' same = absurd (let e : 1 + count (λ x. true) zs ≡ 0 = same (λ x. true) in omega (arith, e))
one-order (z ∷ zs) (w ∷ ws) up up' same =
    let first : z ≡ w = neither z w (first-not-before w z ws zs up' (λ p. sym (same p))) (first-not-before z w zs ws up same) in
    let later : zs ≡ ws = one-order zs ws up.1 up'.1 (Same-behind z w zs ws same first) in
    λ i. first i ∷ later i

-- ---- what a sort gives

Sorted-map : {X : Type 0} (f : X → Line) (xs : List X) → ((i j : ℕ) (d : X) → i ≤ j → j < length xs → line_lt (f (get_or xs j d)) (f (get_or xs i d)) ≡ false) → Sorted (map f xs)
Sorted-map f [] up = tt
Sorted-map {X} f (x ∷ xs) up =
    (behind xs (λ j d inside. up 0 (suc j) d (omega arith) (omega arith)), Sorted-map f xs (λ i j d le inside. up (suc i) (suc j) d (omega arith) (omega arith)))
  where
    behind : (rest : List X) → ((j : ℕ) (d : X) → j < length rest → line_lt (f (get_or rest j d)) (f x) ≡ false) → AllByRecursion (λ (other : Line). line_lt other (f x) ≡ false) (map f rest)
    behind [] each = tt
    behind (y ∷ rest) each = (each 0 y (omega arith), behind rest (λ j d inside. each (suc j) d (omega arith)))

-- the test of a sort, by the lines that values stand for
abbrev pub stands_before : {X : Type 0} → (X → Line) → X → X → Bool
stands_before f a b = line_lt (f a) (f b)

pub stands_before-order : {X : Type 0} (f : X → Line) → IsStrictWeakOrder (stands_before f)
stands_before-order f = ranks_by line_cmp_total f

pub sorted-lines : {X : Type 0} (f : X → Line) (xs ys : List X) → IsPermutation xs ys → IsSortedBy (stands_before f) ys → map f ys ≡ in_order (map f xs)
sorted-lines f xs ys moved up =
    one-order (map f ys) (in_order (map f xs))
    (Sorted-map f ys (λ i j d le inside. sorted_far (stands_before f) (stands_before-order f) ys up i j d le inside))
    (Sorted-fold (map f xs) [] tt)
    (λ p.
    let permuted : count p (map f ys) ≡ count p (map f xs) =
    count-is p (map f ys) ∙ (sum_by-IsPermutation (λ (x : Line). weight (p x)) (map f xs) (map f ys) (IsPermutation-map f xs ys moved) ∙ sym (count-is p (map f xs)))
    in
    let folded = count-fold p (map f xs) [] in
    omega (arith, permuted, folded))
