use Rattle.std.proofs.Common.{◌+◌, ◌<◌, length, subst, sym}
use Rattle.wk_lex.proofs.LexerLemmas.{byte-anywhere}
use Rattle.wk_lex.specs.Spans.{IsAtomAt}
use Rattle.wk_tree_rules.specs.declared.AtomKind.TheVariants.{Byte}
use Rattle.wk_lex.proofs.atoms.atom_at.Goals as goal

pub returns-then-is_text-clause-atom : goal.returns-then-is_text-clause-atom
returns-then-is_text-clause-atom c =
    subst (λ t. IsAtomAt c.args.mode t c.args.at (Byte, c.args.at + 1)) c.tags.view_is
    (byte-anywhere c.args.mode c.tags.inside.text.now c.args.at (subst (λ t. c.args.at < length t) (sym c.tags.view_is) c.requires) c.if-is_text.ensures.plain c.if-is_text.ensures.space c.if-is_text.ensures.tab)
