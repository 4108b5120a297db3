-- No page has a number of 2^32 or more, so where a listing goes on above such a number, nothing is listed.
use Rattle.std.proofs.Common.{◌≡◌, ℕ, zero, suc, ◌+◌, ◌<◌, ◌≤◌, Bool, true, false, ◌&&◌, List, [], ◌∷◌, map, take, get_or, refl, sym, ap, ◌∙◌, inl, inr, arith}
use Rattle.std.specs.Prelude.{nat_lt, filter}
use Rattle.std.specs.List.{enumerate_from}
use Rattle.std.proofs.lemmas.Bool.{cases_Bool, and_parts, le-ltb, ltb-true, ltb-false}

module _ {X : Type 0} (t : X → Bool) where
  abbrev above : ℕ → ℕ → List X → List (ℕ × X)
  above a k xs = filter (λ p. nat_lt a p.0 && t p.1) (enumerate_from k xs)

  none-higher : (a c k : ℕ) (xs : List X) → a ≤ c → above a k xs ≡ [] → above c k xs ≡ []
  none-higher a c k [] h e = refl
  none-higher a c k (x ∷ xs) h e =
      let later : above a (k + 1) xs ≡ [] → above c (k + 1) xs ≡ [] = none-higher a c (k + 1) xs h in
      elim (cases_Bool (nat_lt a k && t x)) [
        | inl on ↦ let f : (k, x) ∷ above a (k + 1) xs ≡ [] = rw on at e in cc
        | inr off ↦ rw (higher k x off) (later (rw off at e))
      ]
    where
      off-too : (b d y : Bool) → (b ≡ false → d ≡ false) → (b && y) ≡ false → (d && y) ≡ false
      off-too true true y i f = f
      off-too true false y i f = refl
      off-too false d y i f = rw (i refl) refl

      higher : (k : ℕ) (x : X) → (nat_lt a k && t x) ≡ false → (nat_lt c k && t x) ≡ false
      higher k x f = off-too (nat_lt a k) (nat_lt c k) (t x) (λ g. le-ltb c k (omega (arith, h, ltb-false a k g))) f

  first-above : (a k : ℕ) (xs : List X) (p : ℕ × X) (ps : List (ℕ × X)) → above a k xs ≡ p ∷ ps → a < p.0
  first-above a k [] p ps e = cc
  first-above a k (x ∷ xs) p ps e =
      let later : above a (k + 1) xs ≡ p ∷ ps → a < p.0 = first-above a (k + 1) xs p ps in
      elim (cases_Bool (nat_lt a k && t x)) [
        | inl on ↦
            let f : (k, x) ∷ above a (k + 1) xs ≡ p ∷ ps = rw on at e in
            let same : (k, x) ≡ p = cc in
            let n : k ≡ p.0 = ap (λ (q : ℕ × X). q.0) same in
            let low : a < k = ltb-true a k (and_parts (nat_lt a k) (t x) on).0 in
            omega (arith, n, low)
        | inr off ↦ later (rw off at e)
      ]

  abbrev numbers : ℕ → List X → ℕ → List ℕ
  numbers a xs most = take most (map (λ (p : ℕ × X). p.0) (above a 1 xs))

  by-found : (a c most : ℕ) (xs : List X) (found : List (ℕ × X)) → a ≤ c → above a 1 xs ≡ found → get_or (take most (map (λ (p : ℕ × X). p.0) found)) 0 0 ≤ a
      → numbers a xs most ≡ numbers c xs most
  by-found a c most xs [] h e low =
      ap (λ (l : List (ℕ × X)). take most (map (λ (p : ℕ × X). p.0) l)) (e ∙ sym (none-higher a c 1 xs h e))
  by-found a c zero xs (p ∷ ps) h e low = refl
  by-found a c (suc m) xs (p ∷ ps) h e low = absurd (omega (arith, low, first-above a 1 xs p ps e))

  -- where each number that was found is at most a, a greater number gives the same
  pub same-above : (a c most : ℕ) (xs : List X) → a ≤ c → get_or (numbers a xs most) 0 0 ≤ a → numbers a xs most ≡ numbers c xs most
  same-above a c most xs h low = by-found a c most xs (above a 1 xs) h refl low
