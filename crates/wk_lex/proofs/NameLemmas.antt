-- Names in whichever case their letters are written.
use Rattle.std.proofs.Common.{◌≡◌, ℕ, ◌+◌, ◌-◌, ◌<◌, ◌≤◌, Bool, true, false, ◌&&◌, ◌==◌, List, [], ◌∷◌, length, take, drop, map, Some, None, if◌then◌else◌, refl, ap, ap₂, sym, ◌∙◌, arith, length-drop, eqb-true, take_all}
use Rattle.std.proofs.lemmas.List.{drop-drop}
use Rattle.std.specs.Char.{eq_ignore_ascii_case, to_ascii_lowercase}
use Rattle.std.specs.List.{starts_with}
use Rattle.wk_text_rules.specs.Shapes.{in_any_case}
use Rattle.wk_lex.specs.Places.{EndsAt}
use lib.Pointwise.{pointwise}

same-byte : (a b : ℕ) → a ≡ b → (a == b) ≡ true
same-byte a b e = grind arith

-- texts that are the same in small letters
same-name : (name part : List ℕ) → map to_ascii_lowercase part ≡ map to_ascii_lowercase name → pointwise eq_ignore_ascii_case name part ≡ true
same-name [] [] e = refl
same-name [] (b ∷ part) e = cc
same-name (a ∷ name) [] e = cc
same-name (a ∷ name) (b ∷ part) e =
    let first : to_ascii_lowercase a ≡ to_ascii_lowercase b = cc in
    let later : map to_ascii_lowercase part ≡ map to_ascii_lowercase name = cc in
    ap₂ (λ s t. s && t) (same-byte (to_ascii_lowercase a) (to_ascii_lowercase b) first) (same-name name part later)

both : (s t : Bool) → (s && t) ≡ true → (s ≡ true) × (t ≡ true)
both true true e = (refl, refl)
both true false e = cc
both false t e = cc

small-letters : (name part : List ℕ) → pointwise eq_ignore_ascii_case name part ≡ true → map to_ascii_lowercase part ≡ map to_ascii_lowercase name
small-letters [] [] e = refl
small-letters [] (b ∷ part) e = cc
small-letters (a ∷ name) [] e = cc
small-letters (a ∷ name) (b ∷ part) e =
    let parts = both (eq_ignore_ascii_case a b) (pointwise eq_ignore_ascii_case name part) e in
    let first : to_ascii_lowercase a ≡ to_ascii_lowercase b = eqb-true (to_ascii_lowercase a) (to_ascii_lowercase b) parts.0 in
    ap₂ (λ x xs. x ∷ xs) (sym first) (small-letters name part parts.1)

false-by : (t : Bool) → (t ≡ true → ⊥) → t ≡ false
false-by true h = absurd (h refl)
false-by false h = refl

name-stands : (name text : List ℕ) → map to_ascii_lowercase (take (length name) text) ≡ map to_ascii_lowercase name → in_any_case name text ≡ Some (drop (length name) text)
name-stands name text e = ap (λ t. if t then Some (drop (length name) text) else None) (same-name name (take (length name) text) e)

name-differs : (name text : List ℕ) → (map to_ascii_lowercase (take (length name) text) ≡ map to_ascii_lowercase name → ⊥) → in_any_case name text ≡ None
name-differs name text h =
    ap (λ t. if t then Some (drop (length name) text) else None)
    (false-by (starts_with eq_ignore_ascii_case text name) (λ e. h (small-letters name (take (length name) text) e)))

-- what the test says of the slice that was read
abbrev Same : List ℕ → List ℕ → ℕ → Type 0
Same name text at = map to_ascii_lowercase (take (length name) (take (length text - at) (drop at text))) ≡ map to_ascii_lowercase name

read : (text : List ℕ) (at : ℕ) → take (length text - at) (drop at text) ≡ drop at text
read text at = take_all (length text - at) (drop at text) (omega (arith, length-drop at text))

module _ (name text : List ℕ) (at : ℕ) (some : 0 < length name) where
  pub name_at-ends : length name ≤ length (take (length text - at) (drop at text)) → at ≤ length text → Same name text at → EndsAt (in_any_case name) text at (Some (at + length name))
  name_at-ends room within e = record {
    fits = name-stands name (drop at text) (ap (λ t. map to_ascii_lowercase (take (length name) t)) (sym (read text at)) ∙ e) ∙ ap Some (drop-drop (length name) at text);
    within = (omega arith, omega (arith, ap length (read text at), length-drop at text));
  }

  pub name_at-none : (Same name text at → ⊥) → EndsAt (in_any_case name) text at None
  name_at-none differs = record {
    fits = name-differs name (drop at text) (λ e. differs (ap (λ t. map to_ascii_lowercase (take (length name) t)) (read text at) ∙ e));
    within = tt;
  }

pub not-both : (t : Bool) → t ≡ true → t ≡ false → ⊥
not-both t yes_it_is no_it_is = cc
