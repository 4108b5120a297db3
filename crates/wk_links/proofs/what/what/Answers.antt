use Rattle.std.proofs.Common.{None, option_map, sym, ◌∙◌}
use Rattle.std.specs.Option.{option_copied}
use Rattle.std.proofs.lemmas.Result.{IfOk-weaker}
use Rattle.wk_text_rules.specs.Marked.{all_plain}
use Rattle.wk_links.proofs.PageLemmas.{page_is, no_page}
use Rattle.wk_links.proofs.what.what.Goals as goal

pub what_by-requires-clause-page : goal.what_by-requires-clause-page
what_by-requires-clause-page c = (page_is c.args.target.now None c.in-Some.title (sym c.in-Some.is ∙ c.in_ok-title.ensures)).0

pub returns-in-Some : goal.returns-in-Some
returns-in-Some c =
    let same = (page_is c.args.target.now (option_map all_plain (option_copied c.args.label)) c.in-Some.title (sym c.in-Some.is ∙ c.in_ok-title.ensures)).1 in
    IfOk-weaker c.what_by.result _ _ (λ what e. e ∙ same) c.what_by.ensures

pub returns-in-None : goal.returns-in-None
returns-in-None c =
    no_page c.args.target.now (option_map all_plain (option_copied c.args.label)) (sym c.in-None.is ∙ c.in_ok-title.ensures)
