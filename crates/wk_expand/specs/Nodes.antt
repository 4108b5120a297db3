-- A node, where so many nodes may be opened within each other, itself among them.
use Rattle.std.specs.Prelude.{ℕ, zero, suc, List, ◌++◌, codes}
use Rattle.wk_text_rules.specs.Marked.{all_plain}
use Rattle.wk_text_rules.specs.Titles.{PageTitle}
use Rattle.wk_tree_rules.specs.Tree.{Part}
use Rattle.wk_tree_rules.specs.Trees.{Item, NodeKind, Content}
use Rattle.wk_view_rules.specs.Expand.{expand, items_output, node_output, written_parts}
use Rattle.wk_view_rules.specs.Expansions.{Expansion, Output, charged, give, ◌>>=◌}
use Rattle.wk_view_rules.specs.Frames.{Frame}
use Rattle.wk_view_rules.specs.Texts.{nesting_error}

-- what stands behind a node's charge
abbrev pub opened : ℕ → PageTitle → Frame → NodeKind → Content → Expansion Output
opened zero viewed frame kind content = give nesting_error
opened (suc left) viewed frame kind content = node_output (expand left viewed) viewed frame kind content

abbrev pub charged_node : ℕ → PageTitle → Frame → NodeKind → Content → Expansion Output
charged_node left viewed frame kind content = charged 1 (opened left viewed frame kind content)

-- what is left to do for a list: its items from here on, behind an output
abbrev pub rest_list : ℕ → PageTitle → Frame → Output → List Item → Expansion Output
rest_list left viewed frame out items = items_output (charged_node left viewed frame) items >>= (λ later. give (out ++ later))

-- what is left to do for a template that is given as it is written: its further parts from here on, behind an output
abbrev pub rest_written : (Frame → List Item → Expansion Output) → PageTitle → Frame → Output → List Part → Expansion Output
rest_written inner viewed frame out parts =
    written_parts inner viewed frame parts >>= (λ written. give (out ++ written ++ all_plain (codes "}}")))
