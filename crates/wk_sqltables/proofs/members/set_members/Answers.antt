use Rattle.std.proofs.Common.{arith, map}
use Rattle.sqlite.specs.Held.{state}
use Rattle.sqlite.specs.State.{HasCleanDisk}
use Rattle.wk_table_rows.specs.Members.{member_of}
use Rattle.wk_sqltables.proofs.Inside.{keeps_after, on_ok, survives_both}
use Rattle.wk_sqltables.proofs.MemberSets.{sets_members}
use Rattle.wk_sqltables.proofs.members.set_members.Goals as goal

pub returns-clause-made : goal.returns-clause-made
returns-clause-made g c clean =
    let old = state g.S.Store c.args.transaction.now.conn.now in
    let mid = state g.S.Store c.drop_members.new.transaction.conn.now in
    let new = state g.S.Store c.add_members.new.transaction.conn.now in
    let clean_mid : HasCleanDisk mid = omega (arith, c.add_members.ensures.survives.clean, clean) in
    on_ok c.add_members.result (c.add_members.ensures.made clean) (λ adds. sets_members old mid new c.args.page (map member_of c.args.members.now) (c.in_ok-drop_members.ensures.made clean_mid) adds)

pub returns-clause-inside : goal.returns-clause-inside
returns-clause-inside g c clean =
    let mid = state g.S.Store c.drop_members.new.transaction.conn.now in
    let clean_mid : HasCleanDisk mid = omega (arith, c.add_members.ensures.survives.clean, clean) in
    on_ok c.add_members.result (c.add_members.ensures.inside clean) (λ later inside. later (c.in_ok-drop_members.ensures.inside clean_mid inside))

pub returns-clause-kept : goal.returns-clause-kept
returns-clause-kept g c clean inside =
    let old = state g.S.Store c.args.transaction.now.conn.now in
    let mid = state g.S.Store c.drop_members.new.transaction.conn.now in
    let new = state g.S.Store c.add_members.new.transaction.conn.now in
    let clean_mid : HasCleanDisk mid = omega (arith, c.add_members.ensures.survives.clean, clean) in
    keeps_after old mid new (c.drop_members.ensures.kept clean_mid inside) (c.add_members.ensures.kept clean (c.in_ok-drop_members.ensures.inside clean_mid inside))

pub returns-clause-survives : goal.returns-clause-survives
returns-clause-survives g c = survives_both _ _ _ c.drop_members.ensures.survives c.add_members.ensures.survives
