use Rattle.std.proofs.Common.{IsSome, ◌≡◌, length}
use Rattle.std.specs.List.{All}
use Rattle.std.specs.Option.{IfSome}
use Rattle.std.specs.Slice.Iter.{iter_rest}
use Rattle.wk_tree.specs.Parsed.{node_with}
use Rattle.wk_tree_rules.specs.Tree.{further_parts}
use Rattle.wk_probe.specs.Known.{IsKnown}
use Rattle.wk_probe.proofs.trees.+shown.Given as goal

abbrev pub decreases-item_value : goal.decreases-item_value
decreases-item_value l = l.left

abbrev pub decreases-list_value : goal.decreases-list_value
decreases-list_value l = l.left

abbrev pub decreases-node_value : goal.decreases-node_value
decreases-node_value l = l.left

abbrev pub decreases-part_value : goal.decreases-part_value
decreases-part_value l = l.left

abbrev pub invariant-list_value-loop-item : goal.invariant-list_value-loop-item
invariant-list_value-loop-item l =
    (goal.iterator-list_value-loop-item).can_next l.item-iterator
    × (goal.iterator-list_value-loop-item).is_finite l.item-iterator
    × All (IsKnown l.parsed) (iter_rest l.item-iterator)

abbrev pub invariant-node_value-loop-at : goal.invariant-node_value-loop-at
invariant-node_value-loop-at l =
    IsSome (node_with l.parsed l.node) × IfSome (node_with l.parsed l.node) (λ n. l.at-end ≡ length (further_parts n.content))
