use Rattle.std.proofs.Common.{◌∙◌}
use Rattle.wk_subst.proofs.ItemLaws.{item-same, item-utf8, item-within}
use Rattle.wk_subst.proofs.items.item_text.Goals as goal

pub part_of-requires-clause-within : goal.part_of-requires-clause-within
part_of-requires-clause-within c =
    item-within c.args.tree.now c.args.item c.requires.0 c.requires.1 c.source.result.now c.source.ensures c.span_of-start.result.0 c.span_of-start.result.1 c.span_of-start.ensures.start c.span_of-start.ensures.len

pub part_of-requires-clause-utf8 : goal.part_of-requires-clause-utf8
part_of-requires-clause-utf8 c =
    item-utf8 c.args.tree.now c.args.item c.requires.0 c.requires.1 c.source.result.now c.source.ensures c.span_of-start.result.0 c.span_of-start.result.1 c.span_of-start.ensures.start c.span_of-start.ensures.len

pub returns : goal.returns
returns c = λ i h.
    c.part_of.ensures
    ∙ item-same c.args.tree.now c.args.item i h c.source.result.now c.source.ensures c.span_of-start.result.0 c.span_of-start.result.1 c.span_of-start.ensures.start c.span_of-start.ensures.len
