use Rattle.std.proofs.Common.{◌∙◌, ap, sym}
use Rattle.std.proofs.Math.ListN.{drop_of_length-le}
use Rattle.wk_lex.specs.Ahead.{Ahead}
use Rattle.wk_lex.proofs.SpanSteps.{spans_at-end}
use Rattle.wk_tree_rules.specs.Atoms.{atom_at}
use Rattle.wk_lex.proofs.lexer.Lexer.next.Goals as goal

pub returns-then-self-start-clause-atom : goal.returns-then-self-start-clause-atom
returns-then-self-start-clause-atom c =
    ap (λ (a : Ahead). a.atoms) (sym c.self.view_is)
    ∙ spans_at-end (atom_at c.self.inside.mode) c.self.inside.text.now c.self.inside.at (drop_of_length-le c.self.inside.text.now c.if-self-start.true)
