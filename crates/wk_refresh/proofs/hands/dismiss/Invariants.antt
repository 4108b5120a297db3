use Rattle.std.proofs.Common.{◌≡◌, ◌+◌, ◌++◌, map, length, vec_len, vec_capacity}
use Rattle.wk_refresh.specs.Drained.{first_refusal}
use Rattle.wk_refresh.proofs.hands.dismiss.Given as goal

abbrev pub invariant-dismissing : goal.invariant-dismissing
invariant-dismissing g l =
    (l.workers.items ≡ l.initial.workers.items ++ map (λ h. h.worker) l.yielded) × (vec_len l.workers ≡ vec_len l.initial.workers + length l.yielded)
    × (vec_capacity l.workers ≡ vec_capacity l.initial.workers) × (l.first ≡ first_refusal (map (λ h. h.end) l.yielded))
