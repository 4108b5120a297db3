-- `unfolding computing` lets `refl` compute the rules of this crate on states that are written out.
use Rattle.std.specs.Fmt.{digits}
use Rattle.wk_wiki_rules.specs.StateComputing.{computing as states}
use Rattle.wk_wiki_rules.specs.ListingComputing.{computing as listings}
use Rattle.wk_tool_rules.specs.Generator.{generated}
use Rattle.wk_tool_rules.specs.Saving.{saves_made}

unfoldable pub computing : Unit {0}
unfolding digits states listings generated saves_made
computing = tt
