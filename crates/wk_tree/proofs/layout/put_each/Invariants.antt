use Rattle.std.proofs.Common.{◌≡◌, reverse, take}
use Rattle.wk_tree.specs.Layout.{items_of, put_each, under_section}
use Rattle.wk_tree.proofs.layout.put_each.Given as goal

abbrev pub invariant-loop-item : goal.invariant-loop-item
invariant-loop-item l = record {
  items : items_of l.section (reverse l.stack.items) ≡ put_each (reverse (take l.item-index l.more)) (items_of l.fn.section (reverse l.fn.stack.items));
  under : under_section l.section (reverse l.stack.items) ≡ under_section l.fn.section (reverse l.fn.stack.items);
  len : l.section.len ≡ l.fn.section.len;
}
