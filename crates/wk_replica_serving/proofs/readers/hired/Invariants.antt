use Rattle.std.proofs.Common.{◌≡◌, ◌≤◌, All, max, vec_len}
use Rattle.wk_replica_reads.specs.Looks.{IsFree}
use Rattle.wk_replica_serving.proofs.readers.hired.Given as goal

abbrev pub invariant-hiring : goal.invariant-hiring
invariant-hiring l = (l.pass ≡ l.fn.pass) × All (λ r. IsFree l.shared r.pass) l.readers.items × (vec_len l.readers ≡ l.counter) × (l.counter ≤ max 1 l.count)
