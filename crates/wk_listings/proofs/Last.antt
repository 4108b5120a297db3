-- The last that is listed, where more was found.
use Rattle.std.proofs.Common.{◌≡◌, ℕ, zero, suc, ◌-◌, ◌<◌, ◌≤◌, List, [], ◌∷◌, length, take, get_or, Option, Some, None, refl, arith, ◌⊎◌, inl, inr}
use Rattle.std.specs.List.{last_or}
use Rattle.std.proofs.lemmas.Bool.{cases_lt, lt-ltb, le-ltb}
use Rattle.wk_answer_rules.specs.Lists.{last_listed}

last-taken : (o : Option ℕ) (l : ℕ) (xs : List ℕ) → l < length xs → last_or o (take (suc l) xs) ≡ Some (get_or xs l 0)
last-taken o l [] h = absurd (omega (arith, h))
last-taken o zero (x ∷ xs) h = refl
last-taken o (suc l) (x ∷ xs) h = last-taken (Some x) l xs (omega (arith, h))

pub some_more : (limit : ℕ) (xs : List ℕ) → 0 < limit → limit < length xs → Some (get_or xs (limit - 1) 0) ≡ last_listed (λ n. n) limit xs
some_more zero xs some h = absurd (omega (arith, some))
some_more (suc l) xs some h =
    let on = lt-ltb (suc l) (length xs) h in
    let last = last-taken None l xs (omega (arith, h)) in
    let place : suc l - 1 ≡ l = omega arith in
    rw (place, on, last) refl

pub none_more : (limit : ℕ) (xs : List ℕ) → (limit ≡ 0) ⊎ (length xs ≤ limit) → None ≡ last_listed (λ n. n) limit xs
none_more limit xs (inl none) = rw none (elim (cases_lt 0 (length xs)) [
  | inl some ↦ let on = lt-ltb 0 (length xs) some in rw on refl
  | inr all ↦ let off = le-ltb 0 (length xs) all in rw off refl
])
none_more limit xs (inr all) = let off = le-ltb limit (length xs) all in rw off refl
