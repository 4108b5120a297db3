-- Values that are bound to names, as the code keeps them: all of them in order, and for each name the place of the last.
use Rattle.std.specs.Prelude.{◌≡◌, ℕ, ◌<◌, List, length, map, reverse, Option, Some, None, option_map, string_bytes, IfSome}
use Rattle.std.specs.List.{slice_get}
use Rattle.std.specs.FinMap.{FinMap}
use Rattle.std.specs.Ordering.{nat_cmp}
use Rattle.std.specs.Cmp.Lexicographic.{slice_cmp}
use Rattle.wk_args.specs.Args.{bound}
use Rattle.wk_subst_rules.specs.Places.{Bound, value_bound}
use Rattle.wk_subst.specs.declared.bindings.Binding.{Binding}

abbrev pub one_bound : Binding → Bound
one_bound b = record { name = string_bytes b.name; value = b.value }

-- what is bound, the last binding first
abbrev pub bound_of : List Binding → List Bound
bound_of all = reverse (map one_bound all)

-- the value at a place
abbrev pub value_at : List Binding → Option ℕ → Option (List ℕ)
value_at all None = None
value_at all (Some at) = option_map (λ (b : Binding). b.value) (slice_get all at)

-- Under each name the place of its last binding is kept.
pub record IsLast (all : List Binding) (last : FinMap (slice_cmp nat_cmp) ℕ) : Type 0 where
  pub within : (name : List ℕ) → IfSome (bound last name) (λ at. at < length all)
  pub shows : (name : List ℕ) → value_at all (bound last name) ≡ value_bound (bound_of all) name
