use Rattle.serde_json.specs.View.{view}
use Rattle.wk_revs.specs.Edit.{edit_asked}
use Rattle.wk_revs.specs.Verdict.{refusal_of}
use Rattle.wk_core.specs.Seen.{verdict_now}
use Rattle.wk_saving.specs.Saved.{told_by}
use Rattle.wk_saving.proofs.SaveAnswers.{is-told, planned-acted, refused-acted, same-acted}
use Rattle.wk_saving.proofs.saving.save_told.Goals as goal

pub refused-requires : goal.refused-requires
refused-requires g c =
    let planned = rw c.in-Refused.is at c.in_ok-refusal.ensures in
    is-told (refusal_of c.in-Refused.refusal) (verdict_now c.args.wiki.now (edit_asked c.args.edit.now)) planned

pub returns-in-Refused-clause-acted : goal.returns-in-Refused-clause-acted
returns-in-Refused-clause-acted g c =
    let planned = rw c.in-Refused.is at c.in_ok-refusal.ensures in
    refused-acted g.K.Keeper.told g.K.Keeper.faults c.args.wiki.now view (told_by c.args.kind) c.args.now c.point-point.result (refusal_of c.in-Refused.refusal) (verdict_now c.args.wiki.now (edit_asked c.args.edit.now))
    c.refused.result planned c.point-point.ensures c.refused.ensures

pub returns-in-NoChange-clause-acted : goal.returns-in-NoChange-clause-acted
returns-in-NoChange-clause-acted g c =
    let wiki = c.args.wiki.now in
    let planned = rw c.in-NoChange.is at c.in_ok-refusal.ensures in
    same-acted g.K.Keeper.told g.K.Keeper.faults wiki view c.args.kind wiki.start.limits c.args.now c.point-point.result c.in-NoChange.page (edit_asked c.args.edit.now) c.in-NoChange.title c.unchanged.result c.requires.body
    planned.0 planned.1 c.point-point.ensures c.unchanged.ensures

pub save_ready-requires-clause-planned : goal.save_ready-requires-clause-planned
save_ready-requires-clause-planned g c =
    let planned = rw c.in-Save.is at c.in_ok-refusal.ensures in
    record { edit = edit_asked c.args.edit.now; is = planned }

pub returns-in_ok-ready-in-Save-clause-acted : goal.returns-in_ok-ready-in-Save-clause-acted
returns-in_ok-ready-in-Save-clause-acted g c =
    let wiki = c.args.wiki.now in
    let plan = c.in-Save.plan in
    let planned = rw c.in-Save.is at c.in_ok-refusal.ensures in
    planned-acted g.K.Keeper.told g.K.Keeper.faults wiki c.save_ready.new.wiki view (told_by c.args.kind) c.args.now c.point-point.result (verdict_now wiki (edit_asked c.args.edit.now)) plan.title plan.text
    (view c.in_ok-ready-in-Save.ready) c.save_ready.result planned.0 c.point-point.ensures (c.in_ok-ready-in-Save.ensures wiki.state.history planned.1) c.save_ready.ensures.acted
