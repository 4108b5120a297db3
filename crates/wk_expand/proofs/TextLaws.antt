-- Texts that are put together.
use Rattle.std.proofs.Common.{◌≡◌, List, ◌++◌, ap, append_assoc}

pub regrouped : {X : Type 0} (a b c d : List X) → ((a ++ b) ++ c) ++ d ≡ a ++ (b ++ c) ++ d
regrouped a b c d = ap (λ x. x ++ d) (append_assoc a b c)
