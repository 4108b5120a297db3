-- A template whose title part names a page, in one plain part of the text.
use Rattle.std.specs.Prelude.{◌≡◌, List, Some}
use Rattle.wk_text_rules.specs.Titles.{PageTitle}
use Rattle.wk_tree.specs.Parsed.{list_with}
use Rattle.wk_tree.specs.declared.item.ListId.{ListId}
use Rattle.wk_tree_rules.specs.Trees.{Item}
use Rattle.wk_view_rules.specs.Expand.{inclusion, kind_output}
use Rattle.wk_view_rules.specs.Expansions.{Expansion, Output, ◌>>=◌}
use Rattle.wk_view_rules.specs.Frames.{Frame}
use Rattle.wk_expand.specs.Stack.{Place, parts_at, text_at}
use Rattle.wk_expand.specs.declared.state.Expander.{Expander}

-- The list is the title part of a template that calls this page.
pub record IsPagePart (p : Place) (title : ListId) (page : PageTitle) : Type 0 where
  pub gives : (frame : Frame) (items : List Item) → list_with (text_at p) title ≡ Some items
      → (p.inner frame items >>= (λ name. kind_output p.inner p.viewed p.frame p.node.kind name (parts_at p))) ≡ inclusion p.inner p.viewed p.frame page (parts_at p)

-- A node does what a template does that calls this page.
pub record IsPageNext (p : Place) (t : Expander) (page : PageTitle) (rest : Expansion Output) : Type 0 where
  pub home : t.levels ≡ p.home
  pub is : rest ≡ inclusion p.inner p.viewed p.frame page (parts_at p)
