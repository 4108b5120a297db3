-- What an inclusion finds.
use Rattle.std.specs.Prelude.{List, Result}
use Rattle.wk_text_rules.specs.Titles.{PageTitle}
use Rattle.wk_tree_rules.specs.Tree.{Part}
use Rattle.wk_tree_rules.specs.Trees.{Item}
use Rattle.wk_view_rules.specs.Expand.{included, redirected}
use Rattle.wk_view_rules.specs.Expansions.{Expansion, Output, give}
use Rattle.wk_view_rules.specs.Frames.{Frame}
use Rattle.wk_view_rules.specs.Worlds.{Seen}
use Rattle.wk_expand.specs.Running.{ComesTo, Leads}
use Rattle.wk_expand.specs.State.{IsFrame}
use Rattle.wk_expand.specs.declared.inclusion.Found.{Found}
use Rattle.wk_expand.specs.declared.inclusion.Found.TheVariants.{Gives, Includes, Redirects}
use Rattle.wk_expand.specs.declared.state.Expander.{Expander}
use Rattle.wk_expand.specs.declared.state.Stop.{Stop}

-- what is left to do for an inclusion in the place of a title
abbrev pub found_rest : (Frame → List Item → Expansion Output) → PageTitle → Frame → PageTitle → List Part → Found → Expansion Output
found_rest inner viewed frame title parts (Gives out) = give out
found_rest inner viewed frame title parts (Includes source text) = included inner viewed frame title source text parts
found_rest inner viewed frame title parts (Redirects target) = redirected inner viewed frame title target parts

-- The call finds what a rule of an inclusion says, whatever expands what the node holds.
abbrev pub Finds : Seen → ((Frame → List Item → Expansion Output) → PageTitle → Frame → List Part → Expansion Output) → PageTitle → Expander → Result Found Stop → Expander → Type 0
Finds seen rule title s r t =
    (viewed : PageTitle) (frame : Frame) → IsFrame s viewed frame
    → (inner : Frame → List Item → Expansion Output) (parts : List Part)
    → Leads seen (rule inner viewed frame parts) s (found_rest inner viewed frame title parts) r t

-- The same for a call that asks nothing.
abbrev pub FindsIn : ((Frame → List Item → Expansion Output) → PageTitle → Frame → List Part → Expansion Output) → PageTitle → Expander → Found → Expander → Type 0
FindsIn rule title s found t =
    (seen : Seen) (viewed : PageTitle) (frame : Frame) → IsFrame s viewed frame
    → (inner : Frame → List Item → Expansion Output) (parts : List Part)
    → ComesTo seen (rule inner viewed frame parts) s (found_rest inner viewed frame title parts found) t
