use Rattle.std.proofs.Common.{◌∙◌, arith, refl}
use Rattle.sqlite.specs.Held.{state}
use Rattle.sqlite.specs.State.{HasCleanDisk}
use Rattle.wk_table_rules.specs.Changes.{link_row}
use Rattle.wk_sqltables.specs.Entries.{link_values}
use Rattle.wk_sqltables.specs.LinkTables.{tree_of}
use Rattle.wk_sqltables.proofs.LinkSets.{adds_link}
use Rattle.wk_sqltables.proofs.Inside.{inside_keeps, keeps_after, ran_inside, stays_kept, survives_both, survives_same}
use Rattle.wk_sqltables.proofs.Loops.{adds_first, adds_more, adds_all}
use Rattle.wk_sqltables.proofs.links.add_each.Goals as goal

pub titles-init : goal.titles-init
titles-init g c = record {
  same = refl;
  survives = survives_same _;
  made = λ clean table text. adds_first (tree_of table) link_values (link_row c.args.from.page c.args.from.namespace) _ c.args.titles.now;
  inside = λ clean start. start;
  kept = λ clean start. stays_kept _;
}

pub titles-preserved : goal.titles-preserved
titles-preserved g c =
    let was = c.titles.invariant in
    let mid = state g.S.Store c.titles.transaction.conn.now in
    let new = state g.S.Store c.add_link.new.transaction.conn.now in
    let before = λ (clean : HasCleanDisk new). let k : HasCleanDisk mid = omega (arith, c.add_link.ensures.survives.clean, clean) in k in
    record {
      same = c.add_link.ensures.same ∙ was.same;
      survives = survives_both _ _ _ was.survives c.add_link.ensures.survives;
      made = λ clean table text.
          adds_more (tree_of table) link_values (link_row c.args.from.page c.args.from.namespace) _ mid new c.args.titles.now c.titles.title-index c.title-item.result c.titles-test.true c.title-item.is (was.made (before clean) table text)
          (λ items in_store are. adds_link table mid new c.in_ok-add_link.field-0 (link_row c.args.from.page c.args.from.namespace c.title-item.result) (rw (c.in_ok-add_link.was, text) at (c.add_link.ensures.runs clean in_store.inside)) items in_store are);
      inside = λ clean start. ran_inside _ _ _ _ _ (c.add_link.ensures.runs clean (was.inside (before clean) start)) c.in_ok-add_link.was;
      kept = λ clean start. keeps_after _ _ _ (was.kept (before clean) start) (inside_keeps _ _ _ _ _ (c.add_link.ensures.runs clean (was.inside (before clean) start)));
    }

pub returns-in_err-add_link-clause-kept : goal.returns-in_err-add_link-clause-kept
returns-in_err-add_link-clause-kept g c clean start =
    let was = c.titles.invariant in
    let mid = state g.S.Store c.titles.transaction.conn.now in
    let before : HasCleanDisk mid = omega (arith, c.add_link.ensures.survives.clean, clean) in
    keeps_after _ _ _ (was.kept before start) (inside_keeps _ _ _ _ _ (c.add_link.ensures.runs clean (was.inside before start)))

pub returns-in_err-add_link-clause-survives : goal.returns-in_err-add_link-clause-survives
returns-in_err-add_link-clause-survives g c = survives_both _ _ _ c.titles.invariant.survives c.add_link.ensures.survives

pub returns-clause-made : goal.returns-clause-made
returns-clause-made g c clean table text =
    adds_all (tree_of table) link_values (link_row c.args.from.page c.args.from.namespace) _ _ c.args.titles.now c.titles.title-index (omega (arith, c.titles-test.false)) (c.titles.invariant.made clean table text)
