use Rattle.std.proofs.Common.{◌≡◌, ◌∙◌, filter, length, vec_len, ap, sym, subst, rules, arith}
use Rattle.std.specs.Prelude.{is_some}
use Rattle.std.proofs.lemmas.List.Elements.{filter_from_retain}
use Rattle.wk_tables.specs.Jobs.{KeepsJobs, rows_in}
use Rattle.wk_tables.proofs.JobLaws.{KeepsJobs-full, rows-full, rows_in-full}
use Rattle.wk_tables.proofs.job_list.drop_empty.Goals as goal

pub returns-clause-rows : goal.returns-clause-rows
returns-clause-rows c =
    let kept : c.retain.new.self.items ≡ filter (λ slot. is_some slot.row) c.args.slots.now.items =
    filter_from_retain _ (λ slot. is_some slot.row) (λ p x b q called. search rules) _ _ _ c.retain.ensures.filtered in
    ap rows_in kept ∙ rows_in-full c.args.slots.now.items

pub returns-clause-keeps : goal.returns-clause-keeps
returns-clause-keeps c is_in_order keeps =
    let kept : c.retain.new.self.items ≡ filter (λ slot. is_some slot.row) c.args.slots.now.items =
    filter_from_retain _ (λ slot. is_some slot.row) (λ p x b q called. search rules) _ _ _ c.retain.ensures.filtered in
    subst (λ s. KeepsJobs s is_in_order) (sym kept) (KeepsJobs-full c.args.slots.now.items is_in_order keeps)

pub returns-clause-none : goal.returns-clause-none
returns-clause-none c =
    let kept : c.retain.new.self.items ≡ filter (λ slot. is_some slot.row) c.args.slots.now.items =
    filter_from_retain _ (λ slot. is_some slot.row) (λ p x b q called. search rules) _ _ _ c.retain.ensures.filtered in
    let long : length c.retain.new.self.items ≡ vec_len c.retain.new.self = omega arith in
    sym long ∙ ap length kept ∙ rows-full c.args.slots.now.items
    ∙ sym (ap (λ slots. length (rows_in slots)) kept ∙ ap length (rows_in-full c.args.slots.now.items))
