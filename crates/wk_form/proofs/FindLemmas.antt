-- The first value of a name, found among the texts themselves.
use Rattle.std.proofs.Common.{◌≡◌, ℕ, Bool, true, false, cond, List, [], ◌∷◌, Option, Some, refl, option_map}
use Rattle.std.specs.Prelude.{find, bytes_eq, String, string_bytes}
use Rattle.wk_form.specs.Parameters.{texts, first_value}

-- the first pair of a name
abbrev pub first_pair : {A : Type 0} → List ℕ → List (String A × String A) → Option (String A × String A)
first_pair name pairs = find (λ pair. bytes_eq (string_bytes pair.0) name) pairs

abbrev pub value_text : {A : Type 0} → Option (String A × String A) → Option (List ℕ)
value_text pair = option_map (λ p. string_bytes p.1) pair

pub first_value-texts : {A : Type 0} (name : List ℕ) (pairs : List (String A × String A)) →
    first_value name (texts pairs) ≡ value_text (first_pair name pairs)
first_value-texts name [] = refl
first_value-texts {A} name (pair ∷ pairs) = cases (first_value-texts name pairs) (bytes_eq (string_bytes pair.0) name)
  where
    cases : first_value name (texts pairs) ≡ value_text (first_pair name pairs) → (test : Bool) →
        option_map {T = List ℕ × List ℕ} {U = List ℕ} (λ p. p.1)
        (cond test (Some (string_bytes pair.0, string_bytes pair.1)) (find (λ p. bytes_eq p.0 name) (texts pairs)))
        ≡ value_text (cond test (Some pair) (first_pair name pairs))
    cases later true = refl
    cases later false = later
