-- `unfolding computing` lets `refl` compute the rules of this crate on rows and states that are written out.
use Rattle.std.specs.Fmt.{digits}
use Rattle.wk_wiki_rules.specs.StateComputing.{computing as states}
use Rattle.wk_report_rules.specs.Reports.{report_lines}

unfoldable pub computing : Unit {0}
unfolding digits states report_lines
computing = tt
