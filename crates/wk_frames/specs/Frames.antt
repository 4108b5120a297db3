-- The pages that include each other, as a frame.
use Rattle.std.specs.Prelude.{◌≡◌, ℕ, List, [], ◌∷◌, find, bytes_eq, Option, Some, None}
use Rattle.std.specs.FinMap.{FinMap}
use Rattle.std.specs.Ordering.{nat_cmp}
use Rattle.std.specs.Cmp.Lexicographic.{slice_cmp}
use Rattle.wk_args.specs.Args.{bound}
use Rattle.wk_tree.specs.Parsed.{ParsedText, list_with}
use Rattle.wk_view_rules.specs.Frames.{Frame, Binding, binding_length}
use Rattle.wk_frames.specs.Levels.{tree_in}
use Rattle.wk_frames.specs.declared.levels.Bound.{Bound}
use Rattle.wk_frames.specs.declared.levels.Level.{Level}

-- what is bound to a name, as a list of the caller's tree
pub record IsBinding (caller : ParsedText) (v : Bound) (b : Binding) : Type 0 where
  pub value : list_with caller v.value ≡ Some b.value
  pub len : v.len ≡ binding_length b
  pub named : v.named ≡ b.named

abbrev pub IsBindingIn : ParsedText → Option Bound → Option Binding → Type 0
IsBindingIn caller None None = Unit {0}
IsBindingIn caller (Some v) (Some b) = IsBinding caller v b
IsBindingIn caller None (Some b) = ⊥
IsBindingIn caller (Some v) None = ⊥

-- each name is bound to the same
pub record ShowsBindings (caller : ParsedText) (args : FinMap (slice_cmp nat_cmp) Bound) (bindings : List Binding) : Type 0 where
  pub shows : (name : List ℕ) → IsBindingIn caller (bound args name) (find (λ (b : Binding). bytes_eq b.name name) bindings)

-- the pages that include each other, the innermost first, make a frame
abbrev pub ShowsFrame : ParsedText → List Level → Frame → Type 0
ShowsFrame root [] [] = Unit {0}
ShowsFrame root (level ∷ levels) (l ∷ frame) =
    (l.title ≡ level.title) × ShowsBindings (tree_in root levels) level.args l.bindings × ShowsFrame root levels frame
ShowsFrame root [] (l ∷ frame) = ⊥
ShowsFrame root (level ∷ levels) [] = ⊥
