use Rattle.std.proofs.Common.{◌≡◌, ◌≤◌, take}
use Rattle.wk_page_rules.specs.Verdict.{max_texts}
use Rattle.wk_table_rules.specs.GoodStore.{is_good_revision, texts_len}
use Rattle.wk_good_rows.specs.Judged.{Judged}
use Rattle.wk_good_rows.proofs.revisions.bad_revision.Given as goal

abbrev pub invariant-loop-i : goal.invariant-loop-i
invariant-loop-i l =
    Judged (is_good_revision l.tables) l.revisions l.i × (l.texts ≡ texts_len (take l.i l.revisions)) × (l.texts ≤ max_texts)
