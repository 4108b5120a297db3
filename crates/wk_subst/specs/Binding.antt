-- What a value of a call is bound to.
use Rattle.std.specs.Prelude.{ℕ, ◌+◌, List, ◌∷◌, Option, Some, None, decimal}
use Rattle.wk_text_rules.specs.Blank.{trimmed}
use Rattle.wk_tree_rules.specs.Trees.{Item}
use Rattle.wk_subst_rules.specs.Calls.{bound_name}
use Rattle.wk_subst.specs.declared.stack.Call.{Call}

-- a call with one more value, under a name that can be bound, or none
abbrev pub call_named : Call → Option (List ℕ) → List ℕ → Call
call_named call None value = call
call_named call (Some name) value = record call { bound = record { name = name; value = trimmed value } ∷ call.bound }

-- the same for the name of its part, or for the next number
abbrev pub call_with : Call → Option (List Item) → List ℕ → Call
call_with call None value = record call {
  bound = record { name = decimal (call.numbered + 1); value = value } ∷ call.bound;
  numbered = call.numbered + 1;
}
call_with call (Some name) value = call_named call (bound_name name) value
