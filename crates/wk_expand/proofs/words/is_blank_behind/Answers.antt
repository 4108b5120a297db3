use Rattle.std.proofs.Common.{drop, ap, ◌∙◌}
use Rattle.std.proofs.lemmas.List.{take_rest}
use Rattle.wk_text_rules.specs.Blank.{is_blank}
use Rattle.wk_expand.proofs.BlankLaws.{blank-behind, sealed-behind}
use Rattle.wk_expand.proofs.words.is_blank_behind.Goals as goal

pub returns-in-Some : goal.returns-in-Some
returns-in-Some c =
    c.is_blank.ensures
    ∙ ap is_blank (take_rest c.as_bytes.result.now c.args.place)
    ∙ ap (λ text. is_blank (drop c.args.place text)) c.as_bytes.ensures.value
    ∙ blank-behind c.args.title.now c.in-Some.text.now c.args.place c.in-Some.ensures

pub returns-in-None : goal.returns-in-None
returns-in-None c = sealed-behind c.args.title.now c.args.place c.in-None.ensures c.requires
