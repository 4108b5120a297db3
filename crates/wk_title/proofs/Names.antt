-- The tables of names, and look-ups in them.
use Rattle.std.proofs.Common.{◌≡◌, ℕ, ℤ, List, [], ◌∷◌, ◌++◌, map, Some, None, refl, inl, inr}
use Rattle.std.proofs.lemmas.Bool.{cases_Bool}
use Rattle.wk_text_rules.specs.Titles.{named_namespaces, namespace_aliases, same_but_case, underscored}
use Rattle.wk_title.specs.declared.namespace.TheConstants.{NAMED, ALIASES}
use Rattle.wk_title.specs.Names.{called_in}

pub named_is : map (λ e. (e.0, e.1.now)) NAMED ≡ named_namespaces
named_is = refl

pub aliases_are : map (λ e. (e.0, e.1.now)) ALIASES ≡ namespace_aliases
aliases_are = refl

-- the first table goes first
pub called_in-append_some : (xs ys : List (ℤ × List ℕ)) (written : List ℕ) (ns : ℤ) → called_in xs written ≡ Some ns → called_in (xs ++ ys) written ≡ Some ns
called_in-append_some [] ys written ns h = cc
called_in-append_some (x ∷ xs) ys written ns h = elim (cases_Bool (same_but_case (underscored x.1) written)) [
  | inl same ↦ rw same (rw same at h)
  | inr other ↦ rw other (called_in-append_some xs ys written ns (rw other at h))
]

pub called_in-append_none : (xs ys : List (ℤ × List ℕ)) (written : List ℕ) → called_in xs written ≡ None → called_in (xs ++ ys) written ≡ called_in ys written
called_in-append_none [] ys written h = refl
called_in-append_none (x ∷ xs) ys written h = elim (cases_Bool (same_but_case (underscored x.1) written)) [
  | inl same ↦ let clash : Some x.0 ≡ None = rw same at h in cc
  | inr other ↦ rw other (called_in-append_none xs ys written (rw other at h))
]
