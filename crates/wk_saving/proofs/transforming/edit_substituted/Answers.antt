use Rattle.serde_json.specs.View.{view}
use Rattle.wk_revs.specs.Edit.{edit_asked}
use Rattle.wk_saving.proofs.TransformAnswers.{late-told, no-error}
use Rattle.wk_saving.proofs.transforming.edit_substituted.Goals as goal

pub returns-clause-acted : goal.returns-clause-acted
returns-clause-acted g c =
    late-told g.K.Keeper.told g.K.Keeper.faults c.args.wiki.now c.edit_made.new.wiki c.args.wiki.now.start.limits c.args.now (edit_asked c.args.edit.now)
    (no-error view (edit_asked c.args.edit.now) c.point-point.result c.in_ok-refused.field-0 c.in_default.is c.in_ok-refused.ensures) view c.edit_made.result c.edit_made.ensures.acted
