-- The pages that include each other, as the code keeps them, with the innermost last.
use Rattle.std.proofs.Common.{◌≡◌, Bool, true, false, ◌||◌, List, [], ◌∷◌, reverse, refl, ap, ap₂, ◌∙◌}
use Rattle.std.specs.List.{list_any}
use Rattle.std.proofs.lemmas.List.{reverse-append}
use Rattle.std.proofs.lemmas.List.Folds.{list_any-append}

or_comm : (a b : Bool) → (a || b) ≡ (b || a)
or_comm true true = refl
or_comm true false = refl
or_comm false true = refl
or_comm false false = refl

pub any_reversed : {X : Type 0} (p : X → Bool) (xs : List X) → list_any p (reverse xs) ≡ list_any p xs
any_reversed p [] = refl
any_reversed p (x ∷ xs) =
    ap (list_any p) (reverse-append (x ∷ []) xs)
    ∙ list_any-append p (reverse xs) (x ∷ [])
    ∙ or_comm (list_any p (reverse xs)) (list_any p (x ∷ []))
    ∙ ap₂ (λ (a b : Bool). a || b) (or_comm (p x) false) (any_reversed p xs)
