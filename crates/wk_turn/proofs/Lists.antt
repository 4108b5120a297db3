-- Beginnings of lists, sums over lists of views, and how often a number is listed.
use Rattle.std.proofs.Common.{◌≡◌, ◌≢◌, ℕ, zero, suc, ◌+◌, ◌<◌, ◌≤◌, eqb, cond, List, [], ◌∷◌, ◌++◌, length, set, Some, slice_get, refl, ap, sym, ◌∙◌, arith, append_assoc, length-append, eq-eqb, ne_eqb, ◌⊎◌, inl, inr}
use Rattle.std.specs.List.{sum_by, range_with_len}
use Rattle.std.proofs.lemmas.List.Sums.{sum_by-cons, sum_by-append}
use mathlib.Core.List.{IsPrefix}
use mathlib.Core.Option.{some, some-injective, some-ne-none}
use mathlib.Core.Logic.{dite}
use native.Mathlib.Decide.{ℕ_discrete}
use lib.ListN.{get_elem?}
use Rattle.wk_turn.specs.Journal.{times}

module _ {A : Type 0} where
  -- each list begins with itself
  pub prefix_self : (xs : List A) → IsPrefix xs xs
  prefix_self [] = ([], refl)
  prefix_self (x ∷ xs) = (let r = prefix_self xs in r.0, ap (λ ys. x ∷ ys) (prefix_self xs).1)

  pub prefix_nil : (xs : List A) → IsPrefix [] xs
  prefix_nil xs = (xs, refl)

  pub prefix_trans : (xs ys zs : List A) → IsPrefix xs ys → IsPrefix ys zs → IsPrefix xs zs
  prefix_trans xs ys zs p q = (p.0 ++ q.0, sym (append_assoc xs p.0 q.0) ∙ (ap (λ w. w ++ q.0) p.1 ∙ q.1))

  pub prefix_length : (xs ys : List A) → IsPrefix xs ys → length xs ≤ length ys
  prefix_length xs ys p = omega (arith, sym (ap length p.1) ∙ length-append xs p.0)

  -- of two beginnings of one list the shorter begins the longer
  pub prefix_shorter : (xs ys zs : List A) → IsPrefix xs zs → IsPrefix ys zs → length xs ≤ length ys → IsPrefix xs ys
  prefix_shorter [] ys zs p q le = (ys, refl)
  prefix_shorter (x ∷ xs) [] zs p q le = absurd (omega arith)
  prefix_shorter (x ∷ xs) (y ∷ ys) [] p q le = absurd (cc (p.1))
  prefix_shorter (x ∷ xs) (y ∷ ys) (z ∷ zs) p q le =
      let heads : x ≡ y = cc (p.1, q.1) in
      let rest = prefix_shorter xs ys zs (p.0, cc (p.1)) (q.0, cc (q.1)) (omega arith) in
      (rest.0, cc (heads, rest.1))

  -- what stands in a beginning stands in the whole, at the same place
  pub prefix_get : (xs ys : List A) (k : ℕ) (x : A) → IsPrefix xs ys → slice_get xs k ≡ Some x → slice_get ys k ≡ Some x
  prefix_get [] ys k x p h = absurd cc
  prefix_get (y ∷ xs) [] k x p h = absurd (cc (p.1))
  prefix_get (y ∷ xs) (z ∷ ys) zero x p h = cc (p.1, h)
  prefix_get (y ∷ xs) (z ∷ ys) (suc k) x p h = prefix_get xs ys k x (p.0, cc (p.1)) h

  -- and back, below its length
  pub get_prefix : (xs ys : List A) (k : ℕ) (x : A) → IsPrefix xs ys → k < length xs → slice_get ys k ≡ Some x → slice_get xs k ≡ Some x
  get_prefix [] ys k x p l h = absurd (omega arith)
  get_prefix (y ∷ xs) [] k x p l h = absurd (cc (p.1))
  get_prefix (y ∷ xs) (z ∷ ys) zero x p l h = cc (p.1, h)
  get_prefix (y ∷ xs) (z ∷ ys) (suc k) x p l h = get_prefix xs ys k x (p.0, cc (p.1)) (omega arith) h

  pub get_below : (xs : List A) (k : ℕ) (x : A) → slice_get xs k ≡ Some x → k < length xs
  get_below [] k x h = absurd cc
  get_below (y ∷ xs) zero x h = omega arith
  get_below (y ∷ xs) (suc k) x h = let l = get_below xs k x h in omega arith

  pub get_last : (xs : List A) (x : A) → slice_get (xs ++ x ∷ []) (length xs) ≡ Some x
  get_last [] x = refl
  get_last (y ∷ xs) x = get_last xs x

  pub sum_set : (f : A → ℕ) (l : List A) (i : ℕ) (v w : A) → get_elem? l i ≡ some v → sum_by f (set l i w) + f v ≡ sum_by f l + f w
  sum_set f [] i v w at = absurd (some-ne-none v (sym at))
  sum_set f (x ∷ xs) zero v w at = let a = sum_by-cons f w xs in let b = sum_by-cons f x xs in let c : f x ≡ f v = ap f (some-injective x v at) in omega arith
  sum_set f (x ∷ xs) (suc i) v w at = let a = sum_by-cons f x (set xs i w) in let b = sum_by-cons f x xs in let c = sum_set f xs i v w at in omega arith

  pub at_le_sum : (f : A → ℕ) (l : List A) (i : ℕ) (v : A) → get_elem? l i ≡ some v → f v ≤ sum_by f l
  at_le_sum f [] i v at = absurd (some-ne-none v (sym at))
  at_le_sum f (x ∷ xs) zero v at = let b = sum_by-cons f x xs in let c : f x ≡ f v = ap f (some-injective x v at) in omega arith
  at_le_sum f (x ∷ xs) (suc i) v at = let b = sum_by-cons f x xs in let c = at_le_sum f xs i v at in omega arith

  pub two_le_sum : (f : A → ℕ) (l : List A) (i j : ℕ) (v w : A) → j ≢ i → get_elem? l i ≡ some v → get_elem? l j ≡ some w → f v + f w ≤ sum_by f l
  two_le_sum f [] i j v w n at there = absurd (some-ne-none v (sym at))
  two_le_sum f (x ∷ xs) zero zero v w n at there = absurd (n refl)
  two_le_sum f (x ∷ xs) zero (suc j) v w n at there = let b = sum_by-cons f x xs in let c : f x ≡ f v = ap f (some-injective x v at) in let d = at_le_sum f xs j w there in omega arith
  two_le_sum f (x ∷ xs) (suc i) zero v w n at there = let b = sum_by-cons f x xs in let c : f x ≡ f w = ap f (some-injective x w there) in let d = at_le_sum f xs i v at in omega arith
  two_le_sum f (x ∷ xs) (suc i) (suc j) v w n at there = let b = sum_by-cons f x xs in let d = two_le_sum f xs i j v w (λ e. n (ap suc e)) at there in omega arith

  -- a sum that is not 0 has a term that is not 0
  pub some_term : (f : A → ℕ) (l : List A) → 0 < sum_by f l → (i : ℕ) × (v : A) × (get_elem? l i ≡ some v) × (0 < f v)
  some_term f [] h = absurd (omega arith)
  some_term f (x ∷ xs) h = dite (ℕ_discrete (f x) 0)
      (λ e. let b = sum_by-cons f x xs in let r = some_term f xs (omega arith) in (suc r.0, r.1, r.2, r.3))
      (λ n. (0, x, refl, omega arith))

  pub sum_le_length : (f : A → ℕ) (l : List A) → ((x : A) → f x ≤ 1) → sum_by f l ≤ length l
  sum_le_length f [] h = omega arith
  sum_le_length f (x ∷ xs) h = let b = sum_by-cons f x xs in let c = sum_le_length f xs h in let d = h x in omega arith

  pub sum_push : (f : A → ℕ) (l : List A) (x : A) → sum_by f (l ++ x ∷ []) ≡ sum_by f l + f x
  sum_push f l x = let a = sum_by-append f l (x ∷ []) in let b = sum_by-cons f x [] in omega arith

pub times-append : (p : ℕ) (xs ys : List ℕ) → times p (xs ++ ys) ≡ times p xs + times p ys
times-append p xs ys = sum_by-append _ xs ys

times-cons : (p q : ℕ) (qs : List ℕ) → times p (q ∷ qs) ≡ cond (eqb q p) 1 0 + times p qs
times-cons p q qs = sum_by-cons (λ x. cond (eqb x p) 1 0) q qs

pub times_here : (p q : ℕ) (qs : List ℕ) → q ≡ p → times p (q ∷ qs) ≡ 1 + times p qs
times_here p q qs e = times-cons p q qs ∙ ap (λ b. cond b 1 0 + times p qs) (eq-eqb q p e)

times_else : (p q : ℕ) (qs : List ℕ) → q ≢ p → times p (q ∷ qs) ≡ times p qs
times_else p q qs n = let e : times p (q ∷ qs) ≡ 0 + times p qs = times-cons p q qs ∙ ap (λ b. cond b 1 0 + times p qs) (ne_eqb q p n) in omega arith

pub times-range_out : (p a n : ℕ) → (p < a) ⊎ (a + n ≤ p) → times p (range_with_len a n) ≡ 0
times-range_out p a zero o = refl
times-range_out p a (suc n) (inl l) = let e = times_else p a (range_with_len (a + 1) n) (λ e. omega arith) in let r = times-range_out p (a + 1) n (inl (omega arith)) in omega arith
times-range_out p a (suc n) (inr l) = let e = times_else p a (range_with_len (a + 1) n) (λ e. omega arith) in let r = times-range_out p (a + 1) n (inr (omega arith)) in omega arith

-- a number is listed once in a range that has it, and else not
pub times-range_in : (p a n : ℕ) → a ≤ p → p < a + n → times p (range_with_len a n) ≡ 1
times-range_in p a zero low high = absurd (omega arith)
times-range_in p a (suc n) low high = dite (ℕ_discrete a p)
    (λ e. let here = times_here p a (range_with_len (a + 1) n) e in let r = times-range_out p (a + 1) n (inl (omega arith)) in omega arith)
    (λ e. let there = times_else p a (range_with_len (a + 1) n) e in let r = times-range_in p (a + 1) n (omega arith) (omega arith) in omega arith)
