-- What is bound for a part that has a name.
use Rattle.std.specs.Prelude.{ℕ, true, List, ◌∷◌, Option, Some, None}
use Rattle.wk_tree_rules.specs.Trees.{Item}
use Rattle.wk_view_rules.specs.Frames.{Binding}
use Rattle.std.specs.FinMap.{FinMap, insert}
use Rattle.std.specs.Ordering.{nat_cmp}
use Rattle.std.specs.Cmp.Lexicographic.{slice_cmp}
use Rattle.wk_frames.specs.declared.levels.Bound.{Bound}

-- what is bound after a name, or none, is bound to a value
abbrev pub named_in : FinMap (slice_cmp nat_cmp) Bound → Option (List ℕ) → Bound → FinMap (slice_cmp nat_cmp) Bound
named_in args None value = args
named_in args (Some name) value = insert args name value

-- the value of a part under a name, or under none
abbrev pub named_binding : List Item → Option (List ℕ) → List Binding → List Binding
named_binding value None bindings = bindings
named_binding value (Some name) bindings = record { name = name; value = value; named = true } ∷ bindings
