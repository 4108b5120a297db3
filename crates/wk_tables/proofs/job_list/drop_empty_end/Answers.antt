use Rattle.std.proofs.Common.{◌≡◌, ◌-◌, ◌<◌, ◌≤◌, ◌∙◌, refl, false, take, length, vec_len, sym, ap, subst, arith}
use Rattle.std.specs.Prelude.{is_some}
use Rattle.wk_tables.specs.Jobs.{KeepsJobs, rows_in}
use Rattle.wk_tables.proofs.JobLaws.{KeepsJobs-take, rows-fit, rows_in-popped}
use Rattle.wk_tables.proofs.job_list.drop_empty_end.Goals as goal

pub loop-last-preserved : goal.loop-last-preserved
loop-last-preserved c =
    let before = c.loop-last.invariant in
    let slots = c.loop-last.slots.items in
    let same : c.deref.result.now ≡ slots = c.deref.ensures.value in
    let long : length c.deref.result.now ≡ vec_len c.loop-last.slots = c.deref.ensures.len in
    let some : 0 < length c.deref.result.now = c.in-Some.ensures.item.3.0 in
    let empty : is_some c.in-Some.last.now.row ≡ false = sym c.is_some.ensures ∙ c.if-is_some.false in
    let rows = rows_in-popped c.deref.result.now (length c.deref.result.now) c.in-Some.last.now refl some c.in-Some.ensures.item.1 empty in
    let rest : c.truncate.new.self.items ≡ take (vec_len c.loop-last.slots - 1) slots = c.truncate.ensures.items ∙ ap (λ n. take (n - 1) slots) c.len.ensures in
    let rest2 : c.truncate.new.self.items ≡ take (length c.deref.result.now - 1) c.deref.result.now =
    rest ∙ ap (λ n. take (n - 1) slots) (sym long) ∙ ap (take (length c.deref.result.now - 1)) (sym same) in (
      ap rows_in rest2 ∙ rows ∙ ap rows_in same ∙ before.0,
      (λ is_in_order keeps. subst (λ s. KeepsJobs s is_in_order) (sym rest) (KeepsJobs-take slots is_in_order (vec_len c.loop-last.slots - 1) (before.1 is_in_order keeps))),
      omega (arith, c.truncate.ensures.len),
      c.truncate.ensures.capacity ∙ before.3,
    )

pub returns-in_default-clause-holds : goal.returns-in_default-clause-holds
returns-in_default-clause-holds c = let fit = rows-fit c.loop-last.slots.items in omega (arith, fit)

pub returns-then-is_some-clause-holds : goal.returns-then-is_some-clause-holds
returns-then-is_some-clause-holds c = let fit = rows-fit c.loop-last.slots.items in omega (arith, fit)
