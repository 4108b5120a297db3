use Rattle.std.proofs.Common.{◌+◌, codes, None, Some, sym, subst}
use Rattle.wk_text_rules.specs.Shapes.{exactly, up_to}
use Rattle.wk_tree_rules.specs.Tags.{closed_comment}
use Rattle.wk_lex.specs.Places.{EndsAt}
use Rattle.wk_lex.proofs.PlaceLemmas.{and_then-ends, up_to-none, up_to_word-ends}
use Rattle.wk_lex.proofs.comment.closed_comment.Goals as goal

pub returns-in_err-end : goal.returns-in_err-end
returns-in_err-end c =
    let none : EndsAt closed_comment c.args.text.now c.args.at None =
    and_then-ends c.args.text.now (exactly (codes "<!--")) (up_to (exactly (codes "-->"))) c.args.at c.in_ok-inside.inside None
    c.in_ok-inside.ensures.end (up_to-none (exactly (codes "-->")) c.args.text.now c.in_ok-inside.inside c.in_err-end.ensures) in
    subst (λ r. EndsAt closed_comment c.args.text.now c.args.at r) (sym c.from_residual-in_err-end.ensures) none

pub returns : goal.returns
returns c =
    and_then-ends c.args.text.now (exactly (codes "<!--")) (up_to (exactly (codes "-->"))) c.args.at c.in_ok-inside.inside (Some (c.in_ok-end.end + 3))
    c.in_ok-inside.ensures.end (up_to_word-ends (codes "-->") c.args.text.now c.in_ok-inside.inside c.in_ok-end.end c.in_ok-end.ensures)
