use Rattle.std.proofs.Common.{All, vec_len}
use mathlib.Core.List.{IsPrefix}
use Rattle.wk_refresh.specs.Drained.{IsFree}
use Rattle.wk_serving.proofs.hands.gather.Given as goal

abbrev pub invariant-gathering : goal.invariant-gathering
invariant-gathering g l = IsFree l.shared l.pass × IsPrefix l.fn.pass.seen l.pass.seen × All (λ w. IsFree l.shared w.reader.pass) l.workers.items

abbrev pub decreases-gathering : goal.decreases-gathering
decreases-gathering g l = vec_len l.workers
