use Rattle.std.proofs.Common.{ap, arith, subst, sym}
use Rattle.wk_lex.specs.Ahead.{AreSources}
use Rattle.wk_lex.proofs.LexerLemmas.{atoms-all}
use Rattle.wk_tree_laws.proofs.AtomLemmas.{atoms-sources}
use Rattle.wk_lex.proofs.lexer.Lexer.new.Goals as goal

pub invariant_of-result : goal.invariant_of-result
invariant_of-result c = (
  c.new.ensures,
  omega arith,
  c.requires,
  subst AreSources (sym (atoms-all c.args.mode c.args.selected.now)) (atoms-sources c.args.mode c.args.selected.now),
)

pub returns : goal.returns
returns c = ap (λ a. record { text = c.args.selected.now; atoms = a }) (atoms-all c.args.mode c.args.selected.now)
