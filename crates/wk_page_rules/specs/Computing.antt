-- `unfolding computing` lets `refl` compute the rules of this crate where everything is written out.
use Rattle.wk_text_rules.specs.Computing.{computing as texts}
use Rattle.wk_page_rules.specs.Kept.{kept}
use Rattle.wk_page_rules.specs.History.{saved}
use Rattle.wk_page_rules.specs.Verdict.{judged}

unfoldable pub computing : Unit {0}
unfolding texts kept saved judged
computing = tt
