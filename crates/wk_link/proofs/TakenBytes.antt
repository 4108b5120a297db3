-- What a loop over writes has done.
use Rattle.std.proofs.Common.{◌≤◌, ℕ, ◌+◌, ◌-◌, List, length, take, drop, sym, subst, arith, length-drop}
use Rattle.std.proofs.Math.Seq.{take-add}
use Rattle.std.proofs.lemmas.List.{take_all}
use Rattle.std.proofs.KnownBytes.{Appends-trans}
use Rattle.std.specs.Prelude.{Option}
use Rattle.std.specs.Io.KnownBytes.{Appends}

-- the bytes before `at` were taken, and then n more of those from there on
pub Appends-more : (a b c : Option (List ℕ)) (xs : List ℕ) (at n : ℕ) → Appends a b (take at xs)
    → Appends b c (take n (take (length xs - at) (drop at xs))) → Appends a c (take (at + n) xs)
Appends-more a b c xs at n before more =
    let fits : length (drop at xs) ≤ length xs - at = omega (arith, length-drop at xs) in
    let rest = subst (λ l. Appends b c (take n l)) (take_all (length xs - at) (drop at xs) fits) more in
    subst (Appends a c) (sym (take-add at n xs)) (Appends-trans a b c (take at xs) (take n (drop at xs)) before rest)
