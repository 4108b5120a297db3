use Rattle.std.proofs.Common.{◌∙◌, ◌++◌, ap, sym, arith}
use Rattle.std.specs.Option.{option_to_list}
use Rattle.std.proofs.lemmas.List.{take_all}
use Rattle.wk_tables.specs.Jobs.{rows_in}
use Rattle.wk_tables.proofs.JobLaws.{rows_in-more}
use Rattle.wk_tables.proofs.job_list.JobList.rows.Goals as goal

pub loop-slot-preserved : goal.loop-slot-preserved
loop-slot-preserved c = c.in_ok-push_shared.ensures ∙ ap (λ rows. rows ++ option_to_list c.slot-item.result.row) c.loop-slot.invariant ∙ sym (rows_in-more c.deref-slot-items.result.now c.loop-slot.slot-index c.slot-item.result (omega arith) c.slot-item.is)

pub returns : goal.returns
returns c = c.loop-slot.invariant ∙ ap rows_in (take_all c.loop-slot.slot-index c.deref-slot-items.result.now (omega arith)) ∙ ap rows_in c.deref-slot-items.ensures.value ∙ ap (λ j. j.rows) c.self.view_is
