use Rattle.wk_table_rules.specs.GoodStore.{is_good_link, row_lt}
use Rattle.wk_good_rows.specs.Judged.{Judged}
use Rattle.wk_good_rows.specs.Order.{IsInOrder}
use Rattle.wk_good_rows.proofs.links.bad_link.Given as goal

abbrev pub invariant-loop-i : goal.invariant-loop-i
invariant-loop-i l = Judged (is_good_link l.tables) l.rows l.i × IsInOrder (λ a b. row_lt a.from a.target b.from b.target) l.rows l.i
