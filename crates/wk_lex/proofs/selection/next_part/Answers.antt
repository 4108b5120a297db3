use Rattle.std.proofs.Common.{sym, subst}
use Rattle.wk_lex.specs.Selections.{IsNextPart}
use Rattle.wk_lex.proofs.PartSteps.{parts-no_start, parts-no_end, next-part}
use Rattle.wk_lex.proofs.selection.next_part.Goals as goal

pub returns-in_err-tag : goal.returns-in_err-tag
returns-in_err-tag c =
    subst (λ r. IsNextPart c.args.text.now c.args.from r) (sym c.from_residual.ensures) (parts-no_start c.args.text.now c.args.from c.in_err-tag.ensures)

pub returns-in_err-end : goal.returns-in_err-end
returns-in_err-end c =
    subst (λ r. IsNextPart c.args.text.now c.args.from r) (sym c.from_residual-in_err-end.ensures)
    (parts-no_end c.args.text.now c.args.from c.in_ok-tag.tag c.in_ok-tag.ensures c.in_err-end.ensures)

pub returns : goal.returns
returns c = next-part c.args.text.now c.args.from c.in_ok-tag.tag c.in_ok-end.end c.in_ok-tag.ensures c.in_ok-end.ensures
