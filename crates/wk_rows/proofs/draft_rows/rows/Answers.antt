use Rattle.std.proofs.Common.{◌∙◌}
use Rattle.std.specs.Option.{option_copied}
use Rattle.std.proofs.lemmas.Result.{IfOk-weaker}
use Rattle.wk_rows.proofs.RowLaws.{rows_by_methods, rows_in_world}
use Rattle.wk_rows.proofs.draft_rows.rows.Goals as goal

pub returns-clause-value : goal.returns-clause-value
returns-clause-value c =
    let same = rows_by_methods c.args.draft.now c.page-page.result.now c.out.result.now c.reads.result.now (option_copied c.turned.result)
    c.requires c.page-page.ensures.value c.out.ensures c.reads.ensures.value c.turned.ensures in
    IfOk-weaker c.rows_told.result _ _ (λ rows e. e ∙ same) c.rows_told.ensures

pub returns-clause-worlds : goal.returns-clause-worlds
returns-clause-worlds c =
    let d = c.args.draft.now in
    let same = rows_by_methods d c.page-page.result.now c.out.result.now c.reads.result.now (option_copied c.turned.result)
    c.requires c.page-page.ensures.value c.out.ensures c.reads.ensures.value c.turned.ensures in
    IfOk-weaker c.rows_told.result _ _ (λ rows e pages agrees. e ∙ same ∙ rows_in_world d.page d.given d.expanded d.reads c.requires c.page-page.ensures.everywhere pages agrees) c.rows_told.ensures
