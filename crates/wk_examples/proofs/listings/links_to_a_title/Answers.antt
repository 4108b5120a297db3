use Rattle.std.proofs.Common.{refl}
use Rattle.wk_wiki_rules.specs.ListingComputing.{computing}
use Rattle.wk_examples.proofs.listings.links_to_a_title.Goals as goal

pub returns-clause-all : goal.returns-clause-all
unfolding computing
returns-clause-all c = refl

pub returns-clause-above_one : goal.returns-clause-above_one
unfolding computing
returns-clause-above_one c = refl

pub returns-clause-none : goal.returns-clause-none
unfolding computing
returns-clause-none c = refl
