use Rattle.std.proofs.Common.{take}
use Rattle.wk_table_rules.specs.GoodStore.{has_good_title}
use Rattle.wk_good_rows.specs.Among.{IsTitlesOf}
use Rattle.wk_good_rows.specs.Judged.{Judged}
use Rattle.wk_good_rows.proofs.pages.bad_title.Given as goal

abbrev pub invariant-loop-i : goal.invariant-loop-i
invariant-loop-i l = Judged has_good_title l.pages l.i × IsTitlesOf l.titles (take l.i l.pages)
