-- A number that no namespace has.
use mir.Val.{SFits}
use Rattle.std.proofs.Common.{◌≡◌, ℕ, ℤ, pos, negsuc, w8, Bool, true, false, ltb, List, [], ◌∷◌, Option, Some, None, refl, ap, ◌∙◌, inl, inr}
use Rattle.std.specs.Prelude.{find}
use Rattle.std.specs.List.{list_all}
use Rattle.std.specs.Ordering.{int_eq}
use Rattle.std.proofs.lemmas.Bool.{cases_Bool, and_parts, both_ways, ltb-true, false_from_ne_true}
use Rattle.std.proofs.lemmas.Bool.Decides.{Decides-int_eq}
use Rattle.wk_text_rules.specs.Titles.{named_namespaces, namespace_name}

-- a small number, which fits a byte
abbrev pub is_small : ℤ → Bool
is_small (pos n) = ltb n 128
is_small (negsuc n) = ltb n 128

small-fits : (ns : ℤ) → is_small ns ≡ true → SFits w8 ns
small-fits (pos n) small = record { sfits = ltb-true n 128 small }
small-fits (negsuc n) small = record { sfits = ltb-true n 128 small }

none-named : (table : List (ℤ × List ℕ)) (ns : ℤ) → list_all (λ entry. is_small entry.0) table ≡ true → is_small ns ≡ false → find (λ entry. int_eq ns entry.0) table ≡ None
none-named [] ns small large = refl
none-named (entry ∷ table) ns small large =
    let parts = and_parts (is_small entry.0) (list_all (λ e. is_small e.0) table) small in
    elim (cases_Bool (int_eq ns entry.0)) [
      | inl same ↦
          let e : ns ≡ entry.0 = (Decides-int_eq ns entry.0).0 same in
          absurd (both_ways (is_small ns) large (ap is_small e ∙ parts.0))
      | inr other ↦ rw other (none-named table ns parts.1 large)
    ]

pub unnamed : (ns : ℤ) → (SFits w8 ns → ⊥) → namespace_name ns ≡ []
unnamed ns large =
    let no : is_small ns ≡ false = false_from_ne_true (is_small ns) (λ small. large (small-fits ns small)) in
    ap (λ (found : Option (ℤ × List ℕ)). elim found as (λ t. List ℕ) [ None ↦ [] | Some entry ↦ entry.1 ]) (none-named named_namespaces ns refl no)
