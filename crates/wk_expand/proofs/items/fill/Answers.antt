use Rattle.std.proofs.Common.{◌++◌, ◌+◌, ℕ, List, length, get_or, ap, ◌∙◌}
use Rattle.std.specs.Slice.Iter.{iter_rest}
use Rattle.wk_text_rules.specs.Marked.{all_plain, all_sealed}
use Rattle.wk_tree.specs.declared.item.Item.TheVariants.{Plain}
use Rattle.wk_expand.proofs.ListLaws.{AreItems, added-as, added-nothing, added-plain, added-sealed, are-items, filled-end, filled-node, item-found-at, items-long, plain-at, sealed-at, text-same, text-utf8, text-within}
use Rattle.wk_expand.proofs.items.fill.Goals.{in-Plain+in_ok-push_plain-in-Plain, in-Sealed+in_ok-push_sealed-in-Sealed, in-Nothing}
use Rattle.wk_expand.proofs.items.fill.Goals as goal

pub part_of-requires-clause-within : goal.part_of-requires-clause-within
part_of-requires-clause-within c =
    let tree = c.args.tree.now in
    let kept = are-items tree c.args.list c.as_slice-items.result.now (iter_rest c.items.result) c.as_slice-items.ensures.value c.items.ensures.items c.items.ensures.texts in
    text-within tree c.source-source.result.now c.in-Plain.start c.in-Plain.len c.source-source.ensures
    (plain-at tree c.args.list c.as_slice-items.result.now kept c.walk.at c.walk-test.true c.requires c.in-Plain.start c.in-Plain.len c.in-Plain.is)

pub part_of-requires-clause-utf8 : goal.part_of-requires-clause-utf8
part_of-requires-clause-utf8 c =
    let tree = c.args.tree.now in
    let kept = are-items tree c.args.list c.as_slice-items.result.now (iter_rest c.items.result) c.as_slice-items.ensures.value c.items.ensures.items c.items.ensures.texts in
    text-utf8 tree c.source-source.result.now c.in-Plain.start c.in-Plain.len c.source-source.ensures
    (plain-at tree c.args.list c.as_slice-items.result.now kept c.walk.at c.walk-test.true c.requires c.in-Plain.start c.in-Plain.len c.in-Plain.is)

pub part_of-requires-in-Sealed-clause-within : goal.part_of-requires-in-Sealed-clause-within
part_of-requires-in-Sealed-clause-within c =
    let tree = c.args.tree.now in
    let kept = are-items tree c.args.list c.as_slice-items.result.now (iter_rest c.items.result) c.as_slice-items.ensures.value c.items.ensures.items c.items.ensures.texts in
    text-within tree c.source-source.result.now c.in-Sealed.start c.in-Sealed.len c.source-source.ensures
    (sealed-at tree c.args.list c.as_slice-items.result.now kept c.walk.at c.walk-test.true c.requires c.in-Sealed.start c.in-Sealed.len c.in-Sealed.is)

pub part_of-requires-in-Sealed-clause-utf8 : goal.part_of-requires-in-Sealed-clause-utf8
part_of-requires-in-Sealed-clause-utf8 c =
    let tree = c.args.tree.now in
    let kept = are-items tree c.args.list c.as_slice-items.result.now (iter_rest c.items.result) c.as_slice-items.ensures.value c.items.ensures.items c.items.ensures.texts in
    text-utf8 tree c.source-source.result.now c.in-Sealed.start c.in-Sealed.len c.source-source.ensures
    (sealed-at tree c.args.list c.as_slice-items.result.now kept c.walk.at c.walk-test.true c.requires c.in-Sealed.start c.in-Sealed.len c.in-Sealed.is)

pub returns-in-Node : goal.returns-in-Node
returns-in-Node c =
    λ items e.
    let tree = c.args.tree.now in
    let list = c.args.list in
    let cs = c.as_slice-items.result.now in
    let kept = are-items tree list cs (iter_rest c.items.result) c.as_slice-items.ensures.value c.items.ensures.items c.items.ensures.texts in
    filled-node tree list c.args.start c.walk.at (length cs) c.args.out.now c.walk.out c.walk.invariant (items-long tree list cs kept) c.walk-test.true
    (get_or cs c.walk.at (Plain 0 0)) (item-found-at tree list cs kept c.walk.at c.walk-test.true) c.in-Node.node c.in-Node.is items e

pub walk-preserved : goal.walk-preserved
walk-preserved c =
    let tree = c.args.tree.now in
    let list = c.args.list in
    let cs = c.as_slice-items.result.now in
    let kept : AreItems tree list cs = are-items tree list cs (iter_rest c.items.result) c.as_slice-items.ensures.value c.items.ensures.items c.items.ensures.texts in
    let long = items-long tree list cs kept in
    let found = item-found-at tree list cs kept c.walk.at c.walk-test.true in
    elim c.match-items-at.branch [
      | in-Plain+in_ok-push_plain-in-Plain w ↦
          added-as tree list c.args.start (c.walk.at + 1) c.args.out.now w.push_plain.new.self c.match-items-at.out w.out-is
          (added-plain tree list c.args.start c.walk.at (length cs) c.args.out.now c.walk.out c.walk.invariant long c.walk-test.true
          (get_or cs c.walk.at (Plain 0 0)) found w.in-Plain.start w.in-Plain.len w.in-Plain.is w.push_plain.new.self
          (w.in_ok-push_plain-in-Plain.ensures.ok ∙ ap (λ (x : List ℕ). c.walk.out ++ all_plain x) (text-same tree c.source-source.result.now w.part_of.result.now w.in-Plain.start w.in-Plain.len c.source-source.ensures w.part_of.ensures)))
      | in-Sealed+in_ok-push_sealed-in-Sealed w ↦
          added-as tree list c.args.start (c.walk.at + 1) c.args.out.now w.push_sealed.new.self c.match-items-at.out w.out-is
          (added-sealed tree list c.args.start c.walk.at (length cs) c.args.out.now c.walk.out c.walk.invariant long c.walk-test.true
          (get_or cs c.walk.at (Plain 0 0)) found w.in-Sealed.start w.in-Sealed.len w.in-Sealed.is w.push_sealed.new.self
          (w.in_ok-push_sealed-in-Sealed.ensures.ok ∙ ap (λ (x : List ℕ). c.walk.out ++ all_sealed x) (text-same tree c.source-source.result.now w.part_of-in-Sealed.result.now w.in-Sealed.start w.in-Sealed.len c.source-source.ensures w.part_of-in-Sealed.ensures)))
      | in-Nothing w ↦
          added-as tree list c.args.start (c.walk.at + 1) c.args.out.now c.walk.out c.match-items-at.out w.out-is
          (added-nothing tree list c.args.start c.walk.at (length cs) c.args.out.now c.walk.out c.walk.invariant long c.walk-test.true
          (get_or cs c.walk.at (Plain 0 0)) found w.in-Nothing.start w.in-Nothing.len w.in-Nothing.is)
    ]

pub returns : goal.returns
returns c =
    λ items e.
    let tree = c.args.tree.now in
    let list = c.args.list in
    let cs = c.as_slice-items.result.now in
    let kept = are-items tree list cs (iter_rest c.items.result) c.as_slice-items.ensures.value c.items.ensures.items c.items.ensures.texts in
    filled-end tree list c.args.start c.walk.at (length cs) c.args.out.now c.walk.out c.walk.invariant (items-long tree list cs kept) c.walk-test.false items e
