use Rattle.std.proofs.Common.{◌≡◌, ◌≤◌, drop, length}
use Rattle.std.specs.List.{All}
use Rattle.wk_table_rows.proofs.own_rows.own_end.Given as goal

abbrev pub invariant-loop-end : goal.invariant-loop-end
invariant-loop-end g l = (l.end ≤ length l.rows) × All (λ row. g.T.Numbered.number row ≡ l.page) (drop l.end l.rows)

abbrev pub decreases-loop-end : goal.decreases-loop-end
decreases-loop-end g l = l.end
