use Rattle.std.proofs.Common.{◌∙◌, [], ◌∷◌, ap, refl, sym, map, length, reverse, arith}
use Rattle.wk_tree.specs.Laid.{AllLists, node_of}
use Rattle.wk_tree.specs.Layout.{laid}
use Rattle.wk_tree.specs.Tokens.{items_tokens}
use Rattle.wk_tree.specs.declared.token.Token.TheVariants.{Plain}
use Rattle.wk_tree_laws.proofs.OnePassLemmas.{passed-all}
use Rattle.wk_tree_laws.proofs.TreeLemmas.{pieces_of-sound}
use Rattle.wk_tree_rules.specs.Atoms.{atoms}
use Rattle.wk_tree_rules.specs.Reduction.{pieces_of, reduced}
use Rattle.wk_tree_rules.specs.Tree.{item_of}
use Rattle.wk_tree.proofs.AtomLemmas.{one-laid}
use Rattle.wk_tree.proofs.LayoutLemmas.{is-laid}
use Rattle.wk_tree.proofs.parsed.laid_of.Goals as goal

pub returns-then-has_no_mark : goal.returns-then-has_no_mark
returns-then-has_no_mark c =
    let all : AllLists = record { items = c.new-then-has_no_mark.result.items; parts = c.new-then-has_no_mark-2.result.items } in
    is-laid (map item_of (reduced (pieces_of c.args.mode c.args.source.now))) (Plain 0 (length c.args.source.now) ∷ []) (laid (Plain 0 (length c.args.source.now) ∷ [])) _ _
    (one-laid c.args.source.now (atoms c.args.mode c.args.source.now) (c.if-has_no_mark.ensures.whole c.args.mode (omega (arith, c.if-size-gt0.true)))
    ∙ ap (λ p. laid (items_tokens (map item_of p))) (sym (passed-all (pieces_of c.args.mode c.args.source.now) (pieces_of-sound c.args.mode c.args.source.now))))
    refl refl (ap (λ v. map (node_of all) (reverse v)) c.new-then-has_no_mark-3.ensures.items)
