-- The rules of an argument, case by case.
use Rattle.std.proofs.Common.{◌≡◌, List, [], ◌∷◌, ◌++◌, length, codes, Option, Some, None, refl, ap, subst, arith, ◌∙◌}
use Rattle.std.specs.List.{slice_get}
use Rattle.wk_text_rules.specs.Marked.{all_plain, trimmed_output}
use Rattle.wk_text_rules.specs.Titles.{PageTitle}
use Rattle.wk_tree.specs.Parsed.{ParsedText}
use Rattle.wk_tree_rules.specs.Tree.{Part}
use Rattle.wk_tree_rules.specs.Trees.{Item}
use Rattle.wk_view_rules.specs.Expand.{argument_output, argument_value, argument_default, whole_part}
use Rattle.wk_view_rules.specs.Expansions.{Expansion, Output, give}
use Rattle.wk_view_rules.specs.Frames.{Frame, Binding, bound_to}
use Rattle.wk_frames.specs.Frames.{IsBinding, IsBindingIn}
use Rattle.wk_frames.specs.declared.levels.Bound.{Bound}

-- what is bound by the code is bound by the rules
pub binding-some : (caller : ParsedText) (found : Option Bound) (b : Option Binding) (v : Bound) → found ≡ Some v → IsBindingIn caller found b → (x : Binding) × (b ≡ Some x) × IsBinding caller v x
binding-some caller None b v e h = cc
binding-some caller (Some w) None v e h = absurd h
binding-some caller (Some w) (Some x) v e h = let same : w ≡ v = cc in (x, refl, subst (λ (o : Bound). IsBinding caller o x) same h)

pub binding-none : (caller : ParsedText) (found : Option Bound) (b : Option Binding) → found ≡ None → IsBindingIn caller found b → b ≡ None
binding-none caller None None e h = refl
binding-none caller None (Some x) e h = absurd h
binding-none caller (Some w) b e h = cc

module _ (inner : Frame → List Item → Expansion Output) (viewed : PageTitle) (frame : Frame) (name : Output) where
  abbrev pub by_bound : List Part → Option Binding → Expansion Output
  by_bound parts found = elim found [ None ↦ argument_default inner viewed frame name parts | Some b ↦ argument_value inner viewed frame b ]

  argument-by : (parts : List Part) (found : Option Binding) → bound_to frame (trimmed_output name) ≡ found → argument_output inner viewed frame name parts ≡ by_bound parts found
  unfolding argument_output
  argument-by parts found e = ap (by_bound parts) e

  pub argument-bound : (parts : List Part) (b : Binding) → bound_to frame (trimmed_output name) ≡ Some b → argument_output inner viewed frame name parts ≡ argument_value inner viewed frame b
  argument-bound parts b e = argument-by parts (Some b) e

  default-none : (parts : List Part) → length parts ≡ 0 → argument_default inner viewed frame name parts ≡ give (all_plain (codes "{{{") ++ name ++ all_plain (codes "}}}"))
  unfolding argument_default
  default-none [] none = refl
  default-none (part ∷ parts) none = absurd (omega (arith, none))

  default-some : (parts : List Part) (q : Part) → slice_get parts 0 ≡ Some q → argument_default inner viewed frame name parts ≡ whole_part inner viewed frame q
  unfolding argument_default
  default-some [] q some = cc
  default-some (part ∷ parts) q some = let same : part ≡ q = cc in ap (whole_part inner viewed frame) same

  pub argument-written : (parts : List Part) → bound_to frame (trimmed_output name) ≡ None → length parts ≡ 0 → argument_output inner viewed frame name parts ≡ give (all_plain (codes "{{{") ++ name ++ all_plain (codes "}}}"))
  argument-written parts e none = argument-by parts None e ∙ default-none parts none

  pub argument-default : (parts : List Part) (q : Part) → bound_to frame (trimmed_output name) ≡ None → slice_get parts 0 ≡ Some q → argument_output inner viewed frame name parts ≡ whole_part inner viewed frame q
  argument-default parts q e some = argument-by parts None e ∙ default-some parts q some
