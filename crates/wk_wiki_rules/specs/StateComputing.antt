-- `unfolding computing` lets `refl` compute the rules of this crate on states that are written out.
use Rattle.wk_page_rules.specs.Computing.{computing as pages}
use Rattle.wk_view_rules.specs.Computing.{computing as views}
use Rattle.wk_wiki_rules.specs.JobComputing.{computing as jobs}

unfoldable pub computing : Unit {0}
unfolding pages views jobs
computing = tt
