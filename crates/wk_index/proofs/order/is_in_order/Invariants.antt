use Rattle.std.proofs.Common.{take}
use Rattle.wk_index.specs.InOrder.{IsInOrder}
use Rattle.wk_index.proofs.order.is_in_order.Given as goal

abbrev pub invariant-loop-i : goal.invariant-loop-i
invariant-loop-i g l = IsInOrder g.T.Titled.title (take l.i l.items)
