use Rattle.wk_wiki_laws.proofs.TwoHalves.{newest-first}
use Rattle.wk_wiki_laws.proofs.listings.the_newest_revision_is_listed_first.Goals as goal

pub returns : goal.returns
returns c = newest-first
