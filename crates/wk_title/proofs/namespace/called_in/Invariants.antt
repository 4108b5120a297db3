use Rattle.std.proofs.Common.{◌≡◌, length, map}
use Rattle.wk_title.specs.Names.{called_in}
use Rattle.wk_title.proofs.namespace.called_in.Given as goal

abbrev pub invariant-loop-table : goal.invariant-loop-table
invariant-loop-table l =
    called_in (map (λ e. (e.0, e.1.now)) l.table) l.written ≡ called_in (map (λ e. (e.0, e.1.now)) l.fn.table) l.written

abbrev pub decreases-loop-table : goal.decreases-loop-table
decreases-loop-table l = length l.table
