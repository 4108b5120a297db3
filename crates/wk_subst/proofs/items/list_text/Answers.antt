use Rattle.std.specs.Slice.Iter.{iter_rest}
use Rattle.wk_tree.specs.declared.item.Item.TheVariants.{Plain}
use Rattle.wk_subst.proofs.ItemLaws.{are-items, item-at, read-all, read-more}
use Rattle.wk_subst.proofs.items.list_text.Goals as goal

pub item_text-requires : goal.item_text-requires
item_text-requires c =
    let tree = c.args.tree.now in
    let cs = c.as_slice-items.result.now in
    let kept = are-items tree c.args.list cs (iter_rest c.items.result) c.as_slice-items.ensures.value c.requires c.items.ensures.items c.items.ensures.texts in
    let k = item-at tree c.args.list cs (Plain 0 0) c.walk.at kept c.walk-test.true in
    (k.i, k.shown)

pub walk-preserved : goal.walk-preserved
walk-preserved c =
    let tree = c.args.tree.now in
    let cs = c.as_slice-items.result.now in
    let kept = are-items tree c.args.list cs (iter_rest c.items.result) c.as_slice-items.ensures.value c.requires c.items.ensures.items c.items.ensures.texts in
    let k = item-at tree c.args.list cs (Plain 0 0) c.walk.at kept c.walk-test.true in
    read-more tree c.args.list c.walk.at _ c.walk.text c.item_text.result.now c.push.new.self c.walk.invariant k (c.item_text.ensures k.i k.shown) c.in_ok-push.ensures

pub returns : goal.returns
returns c =
    let tree = c.args.tree.now in
    let cs = c.as_slice-items.result.now in
    let kept = are-items tree c.args.list cs (iter_rest c.items.result) c.as_slice-items.ensures.value c.requires c.items.ensures.items c.items.ensures.texts in
    read-all tree c.args.list cs c.walk.at c.walk.text kept c.walk-test.false c.walk.invariant
