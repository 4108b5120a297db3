use Rattle.std.proofs.Common.{List, ap, ◌∙◌}
use Rattle.std.proofs.lemmas.Result.{IfOk-weaker}
use Rattle.wk_text_rules.specs.Titles.{PageTitle}
use Rattle.wk_view_rules.specs.declared.Kind.TheVariants.{Exists}
use Rattle.wk_rows.specs.Titles.{titles_asked, titles_linked, with_titles}
use Rattle.wk_rows.proofs.RowLaws.{put_behind}
use Rattle.wk_rows.proofs.titles.titles_linked.Goals as goal

pub returns : goal.returns
returns c =
    let linked = titles_linked c.args.found.now in
    let asked = titles_asked Exists c.args.reads.now in
    let kept = c.in_ok-add_read.ensures
    ∙ ap (λ (ordered : List PageTitle). with_titles ordered asked)
    (c.in_ok-add_linked.ensures ∙ ap (λ (ordered : List PageTitle). with_titles ordered linked) c.new-titles.ensures.empty)
    ∙ put_behind linked asked in
    IfOk-weaker c.listed.result _ _ (λ titles e. e ∙ kept) c.listed.ensures
