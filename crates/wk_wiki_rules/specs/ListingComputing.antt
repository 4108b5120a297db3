-- `unfolding computing` lets `refl` compute the rules of this crate on histories and rows that are written out.
use Rattle.wk_wiki_rules.specs.JobComputing.{computing as jobs}
use Rattle.wk_wiki_rules.specs.Links.{linking_pages}
use Rattle.wk_wiki_rules.specs.Members.{category_members}

unfoldable pub computing : Unit {0}
unfolding jobs linking_pages category_members
computing = tt
