use Rattle.std.proofs.Common.{get_or}
use Rattle.std.specs.Slice.Iter.{iter_rest}
use Rattle.wk_tree.specs.declared.item.Item.TheVariants.{Plain}
use Rattle.wk_subst.proofs.ItemLaws.{added-more, are-items, filled-end, filled-node, item-at, not-node}
use Rattle.wk_subst.proofs.items.fill.Goals as goal

pub returns-in-Node : goal.returns-in-Node
returns-in-Node c =
    let tree = c.args.tree.now in
    let cs = c.as_slice-items.result.now in
    let kept = are-items tree c.args.list cs (iter_rest c.items.result) c.as_slice-items.ensures.value c.requires c.items.ensures.items c.items.ensures.texts in
    let k = item-at tree c.args.list cs (Plain 0 0) c.walk.at kept c.walk-test.true in
    filled-node tree c.args.list c.args.start c.walk.at c.args.stays c.args.out.now c.walk.out c.walk.invariant _ k c.in-Node.node c.in-Node.is

pub push_item-requires : goal.push_item-requires
push_item-requires c =
    let tree = c.args.tree.now in
    let cs = c.as_slice-items.result.now in
    let kept = are-items tree c.args.list cs (iter_rest c.items.result) c.as_slice-items.ensures.value c.requires c.items.ensures.items c.items.ensures.texts in
    let k = item-at tree c.args.list cs (Plain 0 0) c.walk.at kept c.walk-test.true in
    (k.i, k.shown)

pub walk-preserved : goal.walk-preserved
walk-preserved c =
    let tree = c.args.tree.now in
    let cs = c.as_slice-items.result.now in
    let kept = are-items tree c.args.list cs (iter_rest c.items.result) c.as_slice-items.ensures.value c.requires c.items.ensures.items c.items.ensures.texts in
    let k = item-at tree c.args.list cs (Plain 0 0) c.walk.at kept c.walk-test.true in
    added-more tree c.args.list c.args.start c.walk.at c.args.stays c.args.out.now c.walk.out c.walk.invariant (get_or cs c.walk.at (Plain 0 0)) k c.push_item.new.out
    (not-node (get_or cs c.walk.at (Plain 0 0)) c.in_default.not-Node) (c.in_ok-push_item.ensures k.i k.shown)

pub returns : goal.returns
returns c =
    let tree = c.args.tree.now in
    let cs = c.as_slice-items.result.now in
    let kept = are-items tree c.args.list cs (iter_rest c.items.result) c.as_slice-items.ensures.value c.requires c.items.ensures.items c.items.ensures.texts in
    filled-end tree c.args.list c.args.start c.walk.at c.args.stays c.args.out.now c.walk.out c.walk.invariant cs kept c.walk-test.false
