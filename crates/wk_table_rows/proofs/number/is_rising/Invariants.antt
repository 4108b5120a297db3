use Rattle.std.proofs.Common.{take}
use Rattle.wk_table_rows.specs.Rising.{IsRising}
use Rattle.wk_table_rows.proofs.number.is_rising.Given as goal

abbrev pub invariant-loop-i : goal.invariant-loop-i
invariant-loop-i g l = IsRising g.T.Numbered.number (take l.i l.items)
