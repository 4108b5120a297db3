use Rattle.std.specs.Prelude.{is_some}
use Rattle.std.proofs.Common.{sym, ap, ◌∙◌}
use Rattle.wk_tables.proofs.JobLaws.{holds-found, holds-empty, holds-absent}
use Rattle.wk_tables.proofs.job_list.place_of_job.Goals as goal

pub returns-in-Some : goal.returns-in-Some
returns-in-Some c = holds-found c.args.number c.in-Some.place c.args.slots.now c.index-slots-place.result c.in-Some.ensures c.index-slots-place.is (ap (λ s. is_some s.row) c.index-slots-place.is ∙ sym c.is_some.ensures ∙ c.if-is_some.true)

pub returns-in_default : goal.returns-in_default
returns-in_default c = holds-empty c.args.number c.in-Some.place c.args.slots.now c.index-slots-place.result (c.requires c.if-is_in_order.true) c.in-Some.ensures c.index-slots-place.is (ap (λ s. is_some s.row) c.index-slots-place.is ∙ sym c.is_some.ensures ∙ c.if-is_some.false)

pub returns-in_default-2 : goal.returns-in_default-2
returns-in_default-2 c = holds-absent c.args.number c.args.slots.now c.in_default.ensures
