use Rattle.std.proofs.Common.{◌∙◌, ap, sym, map}
use Rattle.wk_lex.specs.Ahead.{Ahead}
use Rattle.wk_tree.specs.Layout.{laid}
use Rattle.wk_tree.specs.Tokens.{items_tokens}
use Rattle.wk_tree_laws.proofs.OnePassLemmas.{passed-all}
use Rattle.wk_tree_laws.proofs.TreeLemmas.{pieces_of-sound}
use Rattle.wk_tree_laws.specs.OnePass.{nothing_seen, passed, pieces_seen}
use Rattle.wk_tree_rules.specs.Reduction.{piece_of, pieces_of}
use Rattle.wk_tree_rules.specs.Tree.{item_of}
use Rattle.wk_tree.proofs.parsed.tokens_of.Goals as goal

pub returns : goal.returns
returns c =
    c.in_ok-tokens.ensures
    ∙ ap (λ (a : Ahead). laid (items_tokens (map item_of (pieces_seen (passed nothing_seen (map piece_of a.atoms)))))) c.new.ensures
    ∙ ap (λ p. laid (items_tokens (map item_of p))) (sym (passed-all (pieces_of c.args.mode c.args.source.now) (pieces_of-sound c.args.mode c.args.source.now)))
