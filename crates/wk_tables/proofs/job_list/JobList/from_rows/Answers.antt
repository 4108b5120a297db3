use Rattle.std.proofs.Common.{◌≡◌, ◌∙◌, length, vec_len, ap, sym, subst, arith}
use Rattle.wk_table_rows.specs.Rising.{IsRising}
use Rattle.wk_tables.specs.Jobs.{KeepsJobs, rows_in}
use Rattle.wk_tables.proofs.JobLaws.{KeepsJobs-of, rows_in-slot_of, slots-as_many}
use Rattle.wk_tables.proofs.job_list.JobList.from_rows.Goals as goal

pub invariant_of-result : goal.invariant_of-result
invariant_of-result c =
    let slots = c.in_ok-slots.ensures in
    let full : vec_len c.in_ok-slots.slots ≡ length (rows_in c.in_ok-slots.slots.items) =
    (let long : length c.in_ok-slots.slots.items ≡ vec_len c.in_ok-slots.slots = omega arith in sym long) ∙ ap length slots ∙ slots-as_many c.args.rows.items ∙ sym (ap (λ s. length (rows_in s)) slots) in (
      subst (λ s. KeepsJobs s c.is_rising-is_in_order.result) (sym slots)
          (KeepsJobs-of c.args.rows.items c.is_rising-is_in_order.result
          (λ e. subst (IsRising (λ s. s.number)) (c.deref.ensures.value ∙ slots) (c.is_rising-is_in_order.ensures.0 e))),
      omega arith,
      omega (arith, full),
    )

pub returns : goal.returns
returns c = ap rows_in c.in_ok-slots.ensures ∙ rows_in-slot_of c.args.rows.items
