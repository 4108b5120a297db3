use Rattle.std.proofs.Common.{ltb}
use Rattle.wk_table_rules.specs.GoodStore.{is_good_redirect}
use Rattle.wk_good_rows.specs.Judged.{Judged}
use Rattle.wk_good_rows.specs.Order.{IsInOrder}
use Rattle.wk_good_rows.proofs.links.bad_redirect.Given as goal

abbrev pub invariant-loop-i : goal.invariant-loop-i
invariant-loop-i l = Judged (is_good_redirect l.tables) l.rows l.i × IsInOrder (λ a b. ltb a.rd_from b.rd_from) l.rows l.i
