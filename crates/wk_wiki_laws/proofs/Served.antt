-- What a fan serves: a page that names the title above the cursor is served, or is above the new cursor.
use Rattle.std.proofs.Common.{◌≡◌, ◌≢◌, ℕ, zero, suc, ◌+◌, ◌-◌, ◌≤◌, ◌<◌, Bool, true, false, cond, eqb, ltb, ◌&&◌, List, [], ◌∷◌, length, map, take, unwrap_or, Option, Some, None, refl, inl, inr, arith}
use Rattle.std.specs.Prelude.{slice_get}
use Rattle.std.specs.List.{filter, list_any, enumerate_from, last_or}
use Rattle.std.proofs.lemmas.Bool.{cases_Bool, eqb-true, eqb-false, ne_eqb}
use Rattle.wk_text_rules.specs.Titles.{PageTitle}
use Rattle.wk_page_rules.specs.declared.Reach.{Reach}
use Rattle.wk_page_rules.specs.PageRows.{PageRows, names}
use Rattle.wk_wiki_rules.specs.Users.{users}

-- the numbers of the pages that pass a test, where the first has this number
abbrev pub found : (ℕ × PageRows → Bool) → ℕ → List PageRows → List ℕ
found p a stored = map (λ page. page.0) (filter p (enumerate_from a stored))

abbrev pub uses : PageTitle → Reach → ℕ → ℕ × PageRows → Bool
uses title reach above page = ltb above page.0 && names page.1 title reach

pub users-is : (stored : List PageRows) (title : PageTitle) (reach : Reach) (above most : ℕ) → users stored title reach above most ≡ take most (found (uses title reach above) 1 stored)
unfolding users
users-is stored title reach above most = refl

module _ (p : ℕ × PageRows → Bool) (number : ℕ) (links : PageRows) (passes : p (number, links) ≡ true) where
  at-start : (a : ℕ) (x : PageRows) (xs : List PageRows) → a ≡ number → slice_get (x ∷ xs) (number - a) ≡ Some links → p (a, x) ≡ true
  at-start a x xs same there =
      let none : number - a ≡ 0 = omega arith in
      let got : Some x ≡ Some links = rw none at there in
      let is : x ≡ links = cc in
      rw (same, is) passes

  behind : (a : ℕ) (x : PageRows) (xs : List PageRows) → a ≤ number → a ≢ number → slice_get (x ∷ xs) (number - a) ≡ Some links → slice_get xs (number - (a + 1)) ≡ Some links
  behind a x xs from apart there =
      let one : number - a ≡ suc (number - (a + 1)) = omega arith in rw one at there

  pub is-found : (a : ℕ) (stored : List PageRows) → a ≤ number → slice_get stored (number - a) ≡ Some links → list_any (λ n. eqb n number) (found p a stored) ≡ true
  is-found a [] from there = absurd (let e : None ≡ Some links = there in cc)
  is-found a (x ∷ xs) from there = elim (cases_Bool (eqb a number)) [
    | inl same ↦ rw (at-start a x xs (eqb-true a number same) there, same) refl
    | inr other ↦
        let apart = eqb-false a number other in
        let later = is-found (a + 1) xs (omega arith) (behind a x xs from apart there) in
        elim (p (a, x)) as (λ b. list_any (λ n. eqb n number) (map (λ page. page.0) (cond b ((a, x) ∷ filter p (enumerate_from (a + 1) xs)) (filter p (enumerate_from (a + 1) xs)))) ≡ true) [
          | true ↦ rw other later
          | false ↦ later
        ]
  ]

  pub is-served : (a : ℕ) (stored : List PageRows) (most : ℕ) (o : Option ℕ) (d : ℕ) → a ≤ number → slice_get stored (number - a) ≡ Some links → unwrap_or o d < number → number ≤ unwrap_or (last_or o (take most (found p a stored))) d → list_any (λ n. eqb n number) (take most (found p a stored)) ≡ true
  is-served a [] most o d from there low high = absurd (let e : None ≡ Some links = there in cc)
  is-served a (x ∷ xs) zero o d from there low high = absurd (omega (arith, low, high))
  is-served a (x ∷ xs) (suc most) o d from there low high = elim (cases_Bool (eqb a number)) [
    | inl same ↦ rw (at-start a x xs (eqb-true a number same) there, same) refl
    | inr other ↦
        let apart = eqb-false a number other in
        let later = behind a x xs from apart there in
        elim (cases_Bool (p (a, x))) [
          | inl fits ↦ rw (fits, other) (is-served (a + 1) xs most (Some a) d (omega arith) later (omega arith) (rw fits at high))
          | inr fails ↦ rw fails (is-served (a + 1) xs (suc most) o d (omega arith) later low (rw fails at high))
        ]
  ]

pub some-first : (p : ℕ → Bool) (ns : List ℕ) → list_any p ns ≡ true → eqb (length (take 1 ns)) 0 ≡ false
some-first p [] there = absurd (let e : false ≡ true = there in cc)
some-first p (n ∷ ns) there = ne_eqb (length (take 1 (n ∷ ns))) 0 (λ none. omega (arith, none))
