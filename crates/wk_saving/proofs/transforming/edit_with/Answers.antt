use Rattle.serde_json.specs.View.{view}
use Rattle.wk_revs.specs.Edit.{edit_asked}
use Rattle.wk_saving.proofs.TransformAnswers.{late-acted, no-error}
use Rattle.wk_saving.proofs.transforming.edit_with.Goals as goal

pub returns-in-Ok-clause-acted : goal.returns-in-Ok-clause-acted
returns-in-Ok-clause-acted g c =
    late-acted g.K.Keeper.told g.K.Keeper.faults c.args.wiki.now c.edit_made.new.wiki c.args.wiki.now.start.limits c.args.now (edit_asked c.args.edit.now)
    (no-error view (edit_asked c.args.edit.now) c.point-point.result c.in_ok-refused.field-0 c.in_default.is c.in_ok-refused.ensures) (view c.in-Ok.value) c.in-Ok.ensures.acted
