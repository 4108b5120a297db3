-- `unfolding computing` lets `refl` compute the rules of this crate on tables that are written out.
use Rattle.std.specs.Fmt.{digits}
use Rattle.wk_text_rules.specs.Computing.{computing as texts}
use Rattle.wk_table_rules.specs.GoodStore.{first_broken}

unfoldable pub computing : Unit {0}
unfolding texts digits first_broken
computing = tt
