use Rattle.std.proofs.Common.{refl}
use Rattle.wk_wiki_rules.specs.ListingComputing.{computing}
use Rattle.wk_examples.proofs.listings.members_in_order.Goals as goal

pub returns-clause-one : goal.returns-clause-one
unfolding computing
returns-clause-one c = refl

pub returns-clause-order : goal.returns-clause-order
unfolding computing
returns-clause-order c = refl

pub returns-clause-behind : goal.returns-clause-behind
unfolding computing
returns-clause-behind c = refl
