-- The texts that are expanded within each other.
use Rattle.std.specs.Prelude.{ℕ, List, [], ◌∷◌, Option, None, IsSome, IfSome}
use Rattle.std.specs.FinMap.{FinMap}
use Rattle.std.specs.Ordering.{nat_cmp}
use Rattle.std.specs.Cmp.Lexicographic.{slice_cmp}
use Rattle.wk_args.specs.Args.{bound}
use Rattle.wk_tree.specs.Parsed.{ParsedText, list_with}
use Rattle.wk_frames.specs.declared.levels.Bound.{Bound}
use Rattle.wk_frames.specs.declared.levels.Level.{Level}

-- the text of the viewed page, or the given text, and the pages that include each other, the innermost first
pub record LevelsShown : Type 0 where
  pub root : ParsedText
  pub included : List Level

-- the text that is expanded
abbrev pub tree_in : ParsedText → List Level → ParsedText
tree_in root [] = root
tree_in root (level ∷ included) = level.tree

-- what a name is bound to in the innermost page
abbrev pub look_in : List Level → List ℕ → Option Bound
look_in [] name = None
look_in (level ∷ included) name = bound level.args name

-- each value that is bound is a list of the text
pub record HasLists (caller : ParsedText) (args : FinMap (slice_cmp nat_cmp) Bound) : Type 0 where
  pub lists : (name : List ℕ) → IfSome (bound args name) (λ (v : Bound). IsSome (list_with caller v.value))

-- what is bound in each page are lists of the text behind it
abbrev pub AreBound : ParsedText → List Level → Type 0
AreBound root [] = Unit {0}
AreBound root (level ∷ included) = HasLists (tree_in root included) level.args × AreBound root included
