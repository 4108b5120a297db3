use Rattle.std.proofs.Common.{◌∙◌, arith, refl}
use Rattle.sqlite.specs.Held.{state}
use Rattle.sqlite.specs.State.{HasCleanDisk}
use Rattle.wk_table_rules.specs.Changes.{category_row}
use Rattle.wk_table_rows.specs.Members.{member_of}
use Rattle.wk_sqltables.proofs.MemberSets.{adds_member, members_first, members_more, members_all}
use Rattle.wk_sqltables.proofs.Inside.{inside_keeps, keeps_after, ran_inside, stays_kept, survives_both, survives_same}
use Rattle.wk_sqltables.proofs.members.add_each.Goals as goal

pub members-init : goal.members-init
members-init g c = record {
  same = refl;
  survives = survives_same _;
  made = λ clean text. members_first _ c.args.page c.args.members.now;
  inside = λ clean start. start;
  kept = λ clean start. stays_kept _;
}

pub members-preserved : goal.members-preserved
members-preserved g c =
    let was = c.members.invariant in
    let mid = state g.S.Store c.members.transaction.conn.now in
    let new = state g.S.Store c.add_member.new.transaction.conn.now in
    let before = λ (clean : HasCleanDisk new). let k : HasCleanDisk mid = omega (arith, c.add_member.ensures.survives.clean, clean) in k in
    record {
      same = c.add_member.ensures.same ∙ was.same;
      survives = survives_both _ _ _ was.survives c.add_member.ensures.survives;
      made = λ clean text.
          members_more _ mid new c.args.page c.args.members.now c.members.member-index c.member-item.result c.members-test.true c.member-item.is (was.made (before clean) text)
          (λ items in_store are. adds_member mid new c.in_ok-add_member.field-0 (category_row c.args.page (member_of c.member-item.result)) (rw (c.in_ok-add_member.was, text) at (c.add_member.ensures.runs clean in_store.inside)) items in_store are);
      inside = λ clean start. ran_inside _ _ _ _ _ (c.add_member.ensures.runs clean (was.inside (before clean) start)) c.in_ok-add_member.was;
      kept = λ clean start. keeps_after _ _ _ (was.kept (before clean) start) (inside_keeps _ _ _ _ _ (c.add_member.ensures.runs clean (was.inside (before clean) start)));
    }

pub returns-in_err-add_member-clause-kept : goal.returns-in_err-add_member-clause-kept
returns-in_err-add_member-clause-kept g c clean start =
    let was = c.members.invariant in
    let mid = state g.S.Store c.members.transaction.conn.now in
    let before : HasCleanDisk mid = omega (arith, c.add_member.ensures.survives.clean, clean) in
    keeps_after _ _ _ (was.kept before start) (inside_keeps _ _ _ _ _ (c.add_member.ensures.runs clean (was.inside before start)))

pub returns-in_err-add_member-clause-survives : goal.returns-in_err-add_member-clause-survives
returns-in_err-add_member-clause-survives g c = survives_both _ _ _ c.members.invariant.survives c.add_member.ensures.survives

pub returns-clause-made : goal.returns-clause-made
returns-clause-made g c clean text =
    members_all _ _ c.args.page c.args.members.now c.members.member-index (omega (arith, c.members-test.false)) (c.members.invariant.made clean text)
