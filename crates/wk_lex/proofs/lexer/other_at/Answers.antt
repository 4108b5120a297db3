use Rattle.std.proofs.Common.{◌+◌, refl, subst, sym}
use Rattle.wk_lex.specs.Ahead.{AreBytes, IsLongest}
use Rattle.wk_lex.specs.Spans.{IsAtomAt}
use Rattle.wk_tree_rules.specs.declared.AtomKind.TheVariants.{Byte}
use Rattle.wk_lex.proofs.LexerLemmas.{byte-here, next-bytes, next-other}
use Rattle.wk_lex.proofs.lexer.other_at.Goals as goal

pub returns-in-Byte-clause-next : goal.returns-in-Byte-clause-next
returns-in-Byte-clause-next c =
    let here = byte-here c.args.mode c.args.tags.now c.args.at c.mark_at-kind.result.0 c.mark_at-kind.result.1 c.in-Byte.is c.mark_at-kind.ensures.atom in
    next-bytes c.args.mode c.args.tags.now c.args.at c.mark_at-kind.result.0 c.behind_bytes.result c.in-Byte.is
    (subst (λ t. AreBytes c.args.mode t c.args.at c.behind_bytes.result) c.tags.view_is
    (c.behind_bytes.ensures.bytes c.args.mode (subst (λ t. IsAtomAt c.args.mode t c.args.at (Byte, c.args.at + 1)) (sym c.tags.view_is) here)))
    (subst (λ t. IsLongest t c.args.at c.behind_bytes.result) c.tags.view_is c.behind_bytes.ensures.longest)

pub returns-in_default : goal.returns-in_default
returns-in_default c = record {
  next = next-other c.args.mode c.args.tags.now c.args.at c.mark_at-kind.result.0 c.mark_at-kind.result.1 c.in_default.not-Byte c.mark_at-kind.ensures.atom;
  text = c.mark_at-kind.ensures.text;
}

pub returns-then-is_inner_blank-clause-next : goal.returns-then-is_inner_blank-clause-next
returns-then-is_inner_blank-clause-next c =
    next-bytes c.args.mode c.args.tags.now c.args.at Byte c.behind_text.result refl
    (subst (λ t. AreBytes c.args.mode t c.args.at c.behind_text.result) c.tags.view_is (c.behind_text.ensures.bytes c.args.mode (c.if-is_inner_blank.ensures.byte c.args.mode)))
    (subst (λ t. IsLongest t c.args.at c.behind_text.result) c.tags.view_is c.behind_text.ensures.longest)
