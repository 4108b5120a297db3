use Rattle.std.proofs.Common.{◌∙◌}
use Rattle.std.specs.Slice.Iter.{iter_rest}
use Rattle.wk_subst.proofs.ItemLaws.{any-node, are-items}
use Rattle.wk_subst.proofs.items.has_node.Goals as goal

pub returns : goal.returns
returns c =
    let tree = c.args.tree.now in
    let kept = are-items tree c.args.list c.as_slice.result.now (iter_rest c.items.result) c.as_slice.ensures.value c.requires c.items.ensures.items c.items.ensures.texts in
    c.any_node.ensures ∙ any-node tree kept.shows
