use Rattle.std.proofs.Common.{◌∙◌, sym}
use Rattle.wk_text_rules.specs.Titles.{title_eq}
use Rattle.wk_index.proofs.OrderLaws.{any-at_place, any-at_none}
use Rattle.wk_index.proofs.lookup.has_title.Goals as goal

pub returns-in-Some : goal.returns-in-Some
returns-in-Some c =
    c.eq.ensures
    ∙ sym (any-at_place (λ t. t) c.args.title.now (title_eq c.args.title.now) (λ x e. e) c.args.titles.now c.in-Some.place c.index-titles-place.result c.in-Some.ensures c.index-titles-place.is)

pub returns-in-None : goal.returns-in-None
returns-in-None c = sym (any-at_none (λ t. t) c.args.title.now (title_eq c.args.title.now) (λ x e. e) c.args.titles.now c.in-None.ensures)
