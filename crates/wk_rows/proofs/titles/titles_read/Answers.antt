use Rattle.std.proofs.Common.{List, ap, ◌∙◌}
use Rattle.std.proofs.lemmas.Result.{IfOk-weaker}
use Rattle.wk_text_rules.specs.Titles.{PageTitle}
use Rattle.wk_rows.specs.Titles.{titles_asked, with_titles}
use Rattle.wk_rows.proofs.RowLaws.{in_order}
use Rattle.wk_rows.proofs.titles.titles_read.Goals as goal

pub returns : goal.returns
returns c =
    let asked = titles_asked c.args.kind c.args.reads.now in
    let kept = c.in_ok-add_read.ensures ∙ ap (λ (ordered : List PageTitle). with_titles ordered asked) c.new-titles.ensures.empty ∙ in_order asked in
    IfOk-weaker c.listed.result _ _ (λ titles e. e ∙ kept) c.listed.ensures
