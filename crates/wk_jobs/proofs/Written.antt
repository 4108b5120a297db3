-- A vector whose items are all written anew.
use Rattle.std.proofs.Common.{◌≡◌, List, ◌++◌, length, take, ap, ◌∙◌, arith}
use Rattle.std.specs.Prelude.{Vec}
use Rattle.std.specs.Vec.{with_items}
use Rattle.std.proofs.lemmas.List.{append-nil, drop_all, take_all}

pub items-written : {X Z : Type 0} (v : Vec X Z) (xs : List X) → length xs ≡ length v.items → (with_items v xs).items ≡ xs
items-written v xs same =
    let long = v.ok.0 in
    ap (λ behind. take v.len (xs ++ behind)) (drop_all (length xs) v.items (omega arith)) ∙ ap (take v.len) (append-nil xs) ∙ take_all v.len xs (omega arith)
