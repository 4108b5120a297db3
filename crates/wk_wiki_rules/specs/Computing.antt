-- `unfolding computing` lets `refl` compute the rules of this crate on wikis that are written out.
use Rattle.wk_wiki_rules.specs.StateComputing.{computing as states}

unfoldable pub computing : Unit {0}
unfolding states
computing = tt
