-- The last of the pages that were served.
use Rattle.std.proofs.Common.{◌≡◌, suc, ◌-◌, List, [], ◌∷◌, length, Option, Some, None, sym, ap, ◌∙◌, arith}
use Rattle.std.specs.List.{last_or, slice_get}

pub last-got : {X : Type 0} (o : Option X) (xs : List X) (x : X) → slice_get xs (length xs - 1) ≡ Some x → last_or o xs ≡ Some x
last-got o [] x is = absurd (let e : None ≡ Some x = is in cc)
last-got o (y ∷ []) x is = is
last-got o (y ∷ z ∷ xs) x is =
    let far : length (y ∷ z ∷ xs) - 1 ≡ suc (length xs) = omega arith in
    let near : length (z ∷ xs) - 1 ≡ length xs = omega arith in
    last-got (Some y) (z ∷ xs) x (ap (slice_get (z ∷ xs)) near ∙ (ap (slice_get (y ∷ z ∷ xs)) (sym far) ∙ is))
