use Rattle.std.proofs.Common.{refl}
use Rattle.wk_wiki_rules.specs.ListingComputing.{computing}
use Rattle.wk_examples.proofs.listings.names_in_two_halves.Goals as goal

pub returns-clause-old_name : goal.returns-clause-old_name
unfolding computing
returns-clause-old_name c = refl

pub returns-clause-new_name : goal.returns-clause-new_name
unfolding computing
returns-clause-new_name c = refl

pub returns-clause-once : goal.returns-clause-once
unfolding computing
returns-clause-once c = refl
