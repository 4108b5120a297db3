-- The word that a call begins with, in whichever case.
use Rattle.std.proofs.Common.{◌≡◌, ℕ, zero, suc, ◌+◌, ◌<◌, ◌≤◌, cond, Bool, true, false, ◌&&◌, ◌==◌, List, [], ◌∷◌, length, get_or, map, take, drop, codes, Some, None, if◌then◌else◌, nat_lt, refl, ap, ap₂, sym, subst, arith}
use Rattle.std.specs.Char.{eq_ignore_ascii_case, to_ascii_lowercase}
use Rattle.std.specs.Str.{IsCharBoundary, IsUtf8}
use Rattle.std.proofs.lemmas.Str.{IsCharBoundary-after_ascii}
use Rattle.wk_text_rules.specs.Shapes.{in_any_case}
use lib.Pointwise.{pointwise}

-- a part of a text is a name, but for the case of its letters
abbrev pub SameLetters : List ℕ → List ℕ → Type 0
SameLetters name part = map to_ascii_lowercase part ≡ map to_ascii_lowercase name

same-byte : (a b : ℕ) → a ≡ b → (a == b) ≡ true
same-byte a b e = grind arith

same-name : (name part : List ℕ) → SameLetters name part → pointwise eq_ignore_ascii_case name part ≡ true
same-name [] [] e = refl
same-name [] (b ∷ part) e = cc
same-name (a ∷ name) [] e = cc
same-name (a ∷ name) (b ∷ part) e =
    let first : to_ascii_lowercase a ≡ to_ascii_lowercase b = cc in
    let later : map to_ascii_lowercase part ≡ map to_ascii_lowercase name = cc in
    ap₂ (λ s t. s && t) (same-byte (to_ascii_lowercase a) (to_ascii_lowercase b) first) (same-name name part later)

pub name-stands : (name text : List ℕ) → SameLetters name (take (length name) text) → Some (drop (length name) text) ≡ in_any_case name text
name-stands name text e = sym (ap (λ t. if t then Some (drop (length name) text) else None) (same-name name (take (length name) text) e))

no-less : (b : ℕ) (s t : Bool) → b ≤ cond s b (cond t (b + 32) b)
no-less b true t = omega arith
no-less b false true = omega arith
no-less b false false = omega arith

at-most : (name text : List ℕ) (i : ℕ) → SameLetters name (take (length name) text) → i < length name → get_or text i 0 ≤ to_ascii_lowercase (get_or name i 0)
at-most [] text i e h = absurd (omega (arith, h))
at-most (a ∷ name) [] i e h = cc
at-most (a ∷ name) (b ∷ text) zero e h =
    let same : to_ascii_lowercase b ≡ to_ascii_lowercase a = cc in
    subst (λ (n : ℕ). b ≤ n) same (no-less b (nat_lt b 65) (nat_lt b 91))
at-most (a ∷ name) (b ∷ text) (suc i) e h =
    let later : SameLetters name (take (length name) text) = cc in
    at-most name text i later (omega (arith, h))

-- a letter stands behind the word's last byte, which is a colon
pub word-boundary : (text : List ℕ) → IsUtf8 text → 6 ≤ length text → SameLetters (codes "subst:") (take 6 text) → IsCharBoundary text 6
word-boundary text utf8 room e =
    let small : get_or text 5 0 ≤ 58 = at-most (codes "subst:") text 5 e (omega arith) in
    IsCharBoundary-after_ascii text 5 utf8 (omega (arith, room)) (omega (arith, small))
