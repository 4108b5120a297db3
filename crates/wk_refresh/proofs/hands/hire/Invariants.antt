use Rattle.std.proofs.Common.{◌≡◌, ◌+◌, ◌++◌, map, length, vec_len, vec_capacity}
use Rattle.wk_refresh.proofs.hands.hire.Given as goal

abbrev pub invariant-hiring : goal.invariant-hiring
invariant-hiring g l =
    (map (λ h. h.worker) l.hands.items ≡ map (λ h. h.worker) l.initial.hands.items ++ l.yielded) × (vec_len l.hands ≡ vec_len l.initial.hands + length l.yielded)
    × (vec_capacity l.hands ≡ vec_capacity l.initial.hands)
