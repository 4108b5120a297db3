use Rattle.std.proofs.Common.{◌∙◌, arith, refl}
use Rattle.sqlite.specs.Held.{state}
use Rattle.sqlite.specs.State.{HasCleanDisk}
use Rattle.wk_tables.specs.Edits.{edit_of}
use Rattle.wk_sqltables.proofs.Inside.{keeps_after, stays_kept, survives_both, survives_same}
use Rattle.wk_sqltables.proofs.Changes.{makes_first, makes_more, makes_all}
use Rattle.wk_sqltables.proofs.edits.make_edits.Goals as goal

pub edits-init : goal.edits-init
edits-init g c = record {
  same = refl;
  survives = survives_same _;
  made = λ clean. makes_first edit_of _ c.args.edits.now;
  inside = λ clean start. start;
  kept = λ clean start. stays_kept _;
}

pub edits-preserved : goal.edits-preserved
edits-preserved g c =
    let was = c.edits.invariant in
    let mid = state g.S.Store c.edits.transaction.conn.now in
    let new = state g.S.Store c.make_edit.new.transaction.conn.now in
    let before = λ (clean : HasCleanDisk new). let k : HasCleanDisk mid = omega (arith, c.make_edit.ensures.survives.clean, clean) in k in
    record {
      same = c.make_edit.ensures.same ∙ was.same;
      survives = survives_both _ _ _ was.survives c.make_edit.ensures.survives;
      made = λ clean. makes_more edit_of _ mid new c.args.edits.now c.edits.edit-index c.edit-item.result c.edits-test.true c.edit-item.is (was.made (before clean)) (c.in_ok-make_edit.ensures.made clean);
      inside = λ clean start. c.in_ok-make_edit.ensures.inside clean (was.inside (before clean) start);
      kept = λ clean start. keeps_after _ _ _ (was.kept (before clean) start) (c.make_edit.ensures.kept clean (was.inside (before clean) start));
    }

pub returns-in_err-make_edit-clause-kept : goal.returns-in_err-make_edit-clause-kept
returns-in_err-make_edit-clause-kept g c clean start =
    let was = c.edits.invariant in
    let mid = state g.S.Store c.edits.transaction.conn.now in
    let before : HasCleanDisk mid = omega (arith, c.make_edit.ensures.survives.clean, clean) in
    keeps_after _ _ _ (was.kept before start) (c.make_edit.ensures.kept clean (was.inside before start))

pub returns-in_err-make_edit-clause-survives : goal.returns-in_err-make_edit-clause-survives
returns-in_err-make_edit-clause-survives g c = survives_both _ _ _ c.edits.invariant.survives c.make_edit.ensures.survives

pub returns-clause-made : goal.returns-clause-made
returns-clause-made g c clean = makes_all edit_of _ _ c.args.edits.now c.edits.edit-index (omega (arith, c.edits-test.false)) (c.edits.invariant.made clean)
