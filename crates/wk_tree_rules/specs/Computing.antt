-- `unfolding computing` lets `refl` compute the rules of this crate on a text that is written out.
use Rattle.wk_text_rules.specs.Computing.{computing as text_computing}
use Rattle.wk_tree_rules.specs.Atoms.{atoms}
use Rattle.wk_tree_rules.specs.Redirects.{redirect_target}
use Rattle.wk_tree_rules.specs.Reduction.{step, steps, reduced}
use Rattle.wk_tree_rules.specs.Selection.{selection}
use Rattle.wk_tree_rules.specs.Tree.{tree, nodes_of, content_nodes}
use Rattle.wk_tree_rules.specs.Trees.{source_of, content_source, height, content_height}

unfoldable pub computing : Unit {0}
unfolding text_computing atoms redirect_target step steps reduced selection tree nodes_of content_nodes source_of content_source height content_height
computing = tt
