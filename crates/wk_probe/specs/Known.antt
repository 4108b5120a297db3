-- Items that stand in a tree.
use Rattle.std.specs.Prelude.{IsSome}
use Rattle.wk_tree.specs.Parsed.{ParsedText, node_with}
use Rattle.wk_tree.specs.declared.item.Item.{Item}
use Rattle.wk_tree.specs.declared.item.Item.TheVariants.{Plain, Sealed, Nothing, Node}

-- an item that is a node is one of the tree
abbrev pub IsKnown : ParsedText → Item → Type 0
IsKnown parsed (Plain start len) = Unit {0}
IsKnown parsed (Sealed start len) = Unit {0}
IsKnown parsed (Nothing start len) = Unit {0}
IsKnown parsed (Node id) = IsSome (node_with parsed id)
