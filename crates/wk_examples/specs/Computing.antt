-- `unfolding computing` lets `refl` compute the examples of this crate.
use Rattle.wk_tree_rules.specs.Computing.{computing as tree_computing}
use Rattle.wk_examples.specs.Spelled.{spelled_items}

unfoldable pub computing : Unit {0}
unfolding tree_computing spelled_items
computing = tt
