-- `unfolding computing` lets `refl` compute the rules of this crate on lines and states that are written out.
use Rattle.std.specs.Fmt.{digits}
use Rattle.serde_json.proofs.OnLiterals.{serde_json_on_literals as json}
use Rattle.wk_table_rules.specs.Computing.{computing as tables}
use Rattle.wk_wiki_rules.specs.StateComputing.{computing as states}
use Rattle.wk_feed_rules.specs.Reading.{said}

unfoldable pub computing : Unit {0}
unfolding digits json tables states said
computing = tt
