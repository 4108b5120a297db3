-- `unfolding computing` lets `refl` compute the rules of this crate on lists that are written out.
use Rattle.wk_table_rules.specs.Computing.{computing as tables}
use Rattle.wk_wiki_rules.specs.Users.{users}

unfoldable pub computing : Unit {0}
unfolding tables users
computing = tt
