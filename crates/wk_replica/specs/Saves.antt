-- Plans of plain edits (own).
use Rattle.std.specs.Prelude.{◌≡◌}
use Rattle.wk_revs.specs.Edit.{edit_asked}
use Rattle.wk_revs.specs.declared.edit.Edit.{Edit}
use Rattle.wk_core.specs.PlanShown.{PlanShown}
use Rattle.wk_core.specs.Plans.{IsPlanned}
use Rattle.wk_core.specs.Seen.{WikiSeen}
use Rattle.wk_core.specs.declared.plans.Planned.TheVariants.{Save}
use Rattle.wk_feed_rules.specs.Taking.{plain_save}

-- the edit asks for a plain save, and this is what its save makes
pub record IsPlainPlan {K : Type 0} (wiki : WikiSeen K) (edit : Edit) (plan : PlanShown) : Type 0 where
  pub plain : edit_asked edit ≡ plain_save (edit_asked edit).title (edit_asked edit).body
  pub planned : IsPlanned wiki (edit_asked edit) (Save plan)
