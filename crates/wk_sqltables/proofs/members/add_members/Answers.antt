use Rattle.std.proofs.Common.{◌∙◌, [], arith, sym}
use Rattle.sqlite.specs.Held.{state}
use Rattle.sqlite.specs.State.{HasCleanDisk}
use Rattle.wk_sqltables.specs.Entries.{member_values}
use Rattle.wk_sqltables.proofs.Loops.{after_unchanged}
use Rattle.wk_sqltables.proofs.MemberSets.{members_empty}
use Rattle.wk_sqltables.proofs.Inside.{keeps_after, on_ok, stays_kept, survives_both, survives_same, unchanged_inside, unchanged_keeps}
use Rattle.wk_sqltables.proofs.Queries.{not_run_keeps}
use Rattle.wk_sqltables.proofs.members.add_members.Goals as goal

pub returns-then-is_empty-clause-made : goal.returns-then-is_empty-clause-made
returns-then-is_empty-clause-made g c clean = members_empty _ c.args.page c.args.members.now (sym c.is_empty.ensures ∙ c.if-is_empty.true)

pub returns-then-is_empty-clause-kept : goal.returns-then-is_empty-clause-kept
returns-then-is_empty-clause-kept g c clean inside = stays_kept _

pub returns-then-is_empty-clause-survives : goal.returns-then-is_empty-clause-survives
returns-then-is_empty-clause-survives g c = survives_same _

pub returns-in_err-insert-clause-kept : goal.returns-in_err-insert-clause-kept
returns-in_err-insert-clause-kept g c clean inside = not_run_keeps _ _ _ [] _ (c.in_err-insert.ensures.err clean [])

pub returns-clause-made : goal.returns-clause-made
returns-clause-made g c clean =
    let old = state g.S.Store c.args.transaction.now.conn.now in
    let mid = state g.S.Store c.prepare.new.self.conn.now in
    let new = state g.S.Store c.add_each.new.transaction.conn.now in
    let clean_mid : HasCleanDisk mid = omega (arith, c.add_each.ensures.survives.clean, clean) in
    let ok = c.in_ok-insert.ensures.ok clean_mid in
    on_ok c.add_each.result (c.add_each.ensures.made clean) (λ adds. after_unchanged 9 member_values _ old mid new ok.1 (adds ok.0))

pub returns-clause-inside : goal.returns-clause-inside
returns-clause-inside g c clean =
    let mid = state g.S.Store c.prepare.new.self.conn.now in
    let clean_mid : HasCleanDisk mid = omega (arith, c.add_each.ensures.survives.clean, clean) in
    on_ok c.add_each.result (c.add_each.ensures.inside clean) (λ later start. later (unchanged_inside _ _ (c.in_ok-insert.ensures.ok clean_mid).1 start))

pub returns-clause-kept : goal.returns-clause-kept
returns-clause-kept g c clean start =
    let mid = state g.S.Store c.prepare.new.self.conn.now in
    let clean_mid : HasCleanDisk mid = omega (arith, c.add_each.ensures.survives.clean, clean) in
    let same = (c.in_ok-insert.ensures.ok clean_mid).1 in
    keeps_after _ _ _ (unchanged_keeps _ _ same) (c.add_each.ensures.kept clean (unchanged_inside _ _ same start))

pub returns-clause-survives : goal.returns-clause-survives
returns-clause-survives g c = survives_both _ _ _ c.prepare.ensures.survives c.add_each.ensures.survives
