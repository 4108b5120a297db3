use Rattle.std.proofs.Common.{◌∷◌, ◌++◌, [], ◌≡◌, ◌∙◌, ◌<◌, true, false, ap, sym, subst}
use Rattle.std.specs.List.{All}
use Rattle.wk_tables.specs.Jobs.{KeepsJobs, rows_in}
use Rattle.wk_tables.proofs.JobLaws.{KeepsJobs-push, rows_in-push, slot-is}
use Rattle.wk_tables.proofs.job_list.push_row.Goals as goal
use Rattle.wk_tables.proofs.job_list.push_row.Goals.{then-is_in_order, else-is_in_order}

pub returns-clause-rows : goal.returns-clause-rows
returns-clause-rows c =
    ap rows_in (c.push_reserved.ensures.items ∙ ap (λ slot. c.args.slots.now.items ++ slot ∷ []) (slot-is _ _ (ap (λ r. r.job_id) c.row.view_is)))
    ∙ rows_in-push c.args.slots.now.items c.args.row

pub returns-clause-keeps : goal.returns-clause-keeps
returns-clause-keeps c =
    subst (λ s. KeepsJobs s c.if-is_in_order.is_in_order)
    (sym (c.push_reserved.ensures.items ∙ ap (λ slot. c.args.slots.now.items ++ slot ∷ []) (slot-is _ _ (ap (λ r. r.job_id) c.row.view_is))))
    (KeepsJobs-push c.args.slots.now.items c.args.is_in_order c.if-is_in_order.is_in_order c.args.row c.requires.keeps
    (λ still. elim c.if-is_in_order.branch [
      | then-is_in_order w ↦ (
        w.if-is_in_order.true,
        subst (λ slots. All (λ slot. slot.number < c.args.row.job_id) slots) w.deref.ensures.value
            (subst (λ n. All (λ slot. slot.number < n) w.deref.result.now) (ap (λ r. r.job_id) c.row.view_is) (w.is_above_all-is_in_order.ensures.0 (sym w.is_in_order-is ∙ still))),
      )
      | else-is_in_order w ↦ absurd (let no : false ≡ true = sym w.if-is_in_order.false ∙ sym w.is_in_order-is ∙ still in cc)
    ]))
