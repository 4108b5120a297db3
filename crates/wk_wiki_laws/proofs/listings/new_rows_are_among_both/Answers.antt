use Rattle.wk_wiki_laws.proofs.TwoHalves.{new-rows}
use Rattle.wk_wiki_laws.proofs.listings.new_rows_are_among_both.Goals as goal

pub returns : goal.returns
returns c = new-rows
