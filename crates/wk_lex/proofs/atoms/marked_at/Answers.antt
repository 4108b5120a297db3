use Rattle.std.proofs.Common.{subst}
use Rattle.wk_lex.specs.Spans.{IsAtomAt}
use Rattle.wk_lex.proofs.atoms.marked_at.Goals as goal

pub returns-in-123-clause-atom : goal.returns-in-123-clause-atom
returns-in-123-clause-atom c =
    subst (λ t. IsAtomAt c.args.mode t c.args.at c.opening_at.result) c.tags.view_is (c.opening_at.ensures c.args.mode c.in_default.ensures)

pub returns-in-91-clause-atom : goal.returns-in-91-clause-atom
returns-in-91-clause-atom c =
    subst (λ t. IsAtomAt c.args.mode t c.args.at c.opening_at-in-91.result) c.tags.view_is (c.opening_at-in-91.ensures c.args.mode c.in_default.ensures)

pub returns-in-125-clause-atom : goal.returns-in-125-clause-atom
returns-in-125-clause-atom c =
    subst (λ t. IsAtomAt c.args.mode t c.args.at c.closing_at.result) c.tags.view_is (c.closing_at.ensures c.args.mode c.in_default.ensures)

pub returns-in-93-clause-atom : goal.returns-in-93-clause-atom
returns-in-93-clause-atom c =
    subst (λ t. IsAtomAt c.args.mode t c.args.at c.closing_at-in-93.result) c.tags.view_is (c.closing_at-in-93.ensures c.args.mode c.in_default.ensures)
