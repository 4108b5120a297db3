-- Frames: in which page a text is expanded, and which arguments are bound there (MediaWiki's Help:Templates).
use Rattle.std.specs.Prelude.{ℕ, Bool, List, [], ◌∷◌, length, find, bytes_eq, Option, None, option_and_then}
use Rattle.std.specs.List.{list_any}
use Rattle.wk_text_rules.specs.Marked.{MarkedByte, plain_text_of}
use Rattle.wk_text_rules.specs.Titles.{PageTitle, title_eq}
use Rattle.wk_tree_rules.specs.Trees.{Item, items_source}

-- an argument that is bound: its name, the items of its value, and whether it was given by its name
pub record Binding : Type 0 where
  pub name : List ℕ
  pub value : List Item
  pub named : Bool

-- how long the source of the value is
abbrev pub binding_length : Binding → ℕ
binding_length b = length (items_source b.value)

-- a page that is included, and what is bound in it, the last binding first
pub record Level : Type 0 where
  pub title : PageTitle
  pub bindings : List Binding

-- A frame is the pages that include each other, the innermost first. The root, in which the viewed page's own text
-- is expanded, is empty. The values of the innermost page's arguments are expanded in the frame behind it.
abbrev pub Frame : Type 0
Frame = List Level

-- the frame of a page's caller, in which the values of its arguments are expanded
abbrev pub caller : Frame → Frame
caller [] = []
caller (level ∷ frame) = frame

-- what is bound to a name; of two bindings the later one
abbrev pub bound : Frame → List ℕ → Option Binding
bound [] name = None
bound (level ∷ frame) name = find (λ (b : Binding). bytes_eq b.name name) level.bindings

-- what is bound to a name that was expanded; nothing is where it holds a sealed byte
abbrev pub bound_to : Frame → List MarkedByte → Option Binding
bound_to frame name = option_and_then (bound frame) (plain_text_of name)

-- The frame is of this page, or of one that the page includes. The root doesn't count.
abbrev pub is_within : Frame → PageTitle → Bool
is_within frame title = list_any (λ (level : Level). title_eq level.title title) frame
