use Rattle.wk_table_rules.specs.Rows.{category_title}
use Rattle.wk_table_rules.specs.GoodStore.{is_good_category, row_lt}
use Rattle.wk_good_rows.specs.Judged.{Judged}
use Rattle.wk_good_rows.specs.Order.{IsInOrder}
use Rattle.wk_good_rows.proofs.links.bad_category.Given as goal

abbrev pub invariant-loop-i : goal.invariant-loop-i
invariant-loop-i l = Judged (is_good_category l.tables) l.rows l.i × IsInOrder (λ a b. row_lt a.cl_from (category_title a.cl_to) b.cl_from (category_title b.cl_to)) l.rows l.i
