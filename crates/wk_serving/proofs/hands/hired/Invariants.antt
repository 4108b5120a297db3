use Rattle.std.proofs.Common.{◌≡◌, ◌≤◌, All, max, vec_len}
use Rattle.wk_refresh.specs.Drained.{IsFree}
use Rattle.wk_serving.proofs.hands.hired.Given as goal

abbrev pub invariant-hiring : goal.invariant-hiring
invariant-hiring g l = (l.pass ≡ l.fn.pass) × All (λ w. IsFree l.shared w.reader.pass) l.workers.items × (vec_len l.workers ≡ l.counter) × (l.counter ≤ max 1 l.count)
