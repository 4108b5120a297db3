use Rattle.wk_table_rules.specs.GoodStore.{has_good_latest}
use Rattle.wk_good_rows.specs.Judged.{Judged}
use Rattle.wk_good_rows.proofs.history.bad_latest.Given as goal

abbrev pub invariant-loop-i : goal.invariant-loop-i
invariant-loop-i l = Judged (has_good_latest l.tables) l.pages l.i
