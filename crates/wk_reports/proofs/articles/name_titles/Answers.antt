use Rattle.std.proofs.Common.{◌++◌, ◌∷◌, [], not, ◌&&◌, ◌||◌, ap, sym, ◌∙◌, take, List}
use Rattle.std.specs.HashSet.{contains}
use Rattle.std.specs.List.{list_any}
use Rattle.std.proofs.lemmas.List.{take_all, take_more}
use Rattle.wk_text_rules.specs.Titles.{PageTitle, title_eq}
use Rattle.wk_reports.proofs.Found.{named-more, named-nothing}
use Rattle.wk_reports.proofs.articles.name_titles.Goals as goal

pub titles-init : goal.titles-init
titles-init c = λ other. named-nothing (contains title_eq c.args.named.now other) c.args.own.now other

pub titles-preserved : goal.titles-preserved
titles-preserved c = λ other.
    let titles = c.args.titles.now in
    let i = c.titles.title-index in
    let item = c.title-item.result in
    named-more titles i item c.args.own.now other (contains title_eq c.args.named.now other) (contains title_eq c.titles.named other) (contains title_eq c.name_title.new.named other)
    (take_more titles i item c.titles-test.true ∙ ap (λ t. take i titles ++ t ∷ []) (sym c.title-item.is)) (c.titles.invariant other) (c.in_ok-name_title.ensures other)

pub returns : goal.returns
returns c = λ other.
    c.titles.invariant other
    ∙ ap (λ (titles : List PageTitle). contains title_eq c.args.named.now other || (not (title_eq c.args.own.now other) && list_any (title_eq other) titles))
    (take_all c.titles.title-index c.args.titles.now c.titles-test.false)
