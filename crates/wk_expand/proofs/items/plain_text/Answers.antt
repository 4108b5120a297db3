use Rattle.std.proofs.Common.{◌<◌, length, arith}
use Rattle.std.specs.Slice.Iter.{iter_rest}
use Rattle.wk_expand.proofs.ListLaws.{are-items, plain-at, text-same, text-utf8, text-within}
use Rattle.wk_expand.proofs.PlainLaws.{plain-one}
use Rattle.wk_expand.proofs.items.plain_text.Goals as goal

pub part_of-requires-clause-within : goal.part_of-requires-clause-within
part_of-requires-clause-within c =
    let tree = c.args.tree.now in
    let cs = c.as_slice-items.result.now in
    let kept = are-items tree c.args.list cs (iter_rest c.items.result) c.as_slice-items.ensures.value c.items.ensures.items c.items.ensures.texts in
    let within : 0 < length cs = omega (arith, c.if-items-ne1.false) in
    text-within tree c.source.result.now c.in-Plain.start c.in-Plain.len c.source.ensures
    (plain-at tree c.args.list cs kept 0 within c.requires c.in-Plain.start c.in-Plain.len c.in-Plain.is)

pub part_of-requires-clause-utf8 : goal.part_of-requires-clause-utf8
part_of-requires-clause-utf8 c =
    let tree = c.args.tree.now in
    let cs = c.as_slice-items.result.now in
    let kept = are-items tree c.args.list cs (iter_rest c.items.result) c.as_slice-items.ensures.value c.items.ensures.items c.items.ensures.texts in
    let within : 0 < length cs = omega (arith, c.if-items-ne1.false) in
    text-utf8 tree c.source.result.now c.in-Plain.start c.in-Plain.len c.source.ensures
    (plain-at tree c.args.list cs kept 0 within c.requires c.in-Plain.start c.in-Plain.len c.in-Plain.is)

pub returns : goal.returns
returns c =
    let tree = c.args.tree.now in
    let cs = c.as_slice-items.result.now in
    let kept = are-items tree c.args.list cs (iter_rest c.items.result) c.as_slice-items.ensures.value c.items.ensures.items c.items.ensures.texts in
    plain-one tree c.args.list cs kept c.in-Plain.start c.in-Plain.len c.part_of.result.now c.requires c.if-items-ne1.false c.in-Plain.is
    (text-same tree c.source.result.now c.part_of.result.now c.in-Plain.start c.in-Plain.len c.source.ensures c.part_of.ensures)
