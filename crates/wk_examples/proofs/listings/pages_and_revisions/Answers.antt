use Rattle.std.proofs.Common.{refl}
use Rattle.wk_wiki_rules.specs.ListingComputing.{computing}
use Rattle.wk_examples.proofs.listings.pages_and_revisions.Goals as goal

pub returns-clause-existing : goal.returns-clause-existing
unfolding computing
returns-clause-existing c = refl

pub returns-clause-newest : goal.returns-clause-newest
unfolding computing
returns-clause-newest c = refl

pub returns-clause-before : goal.returns-clause-before
unfolding computing
returns-clause-before c = refl

pub returns-clause-none_before : goal.returns-clause-none_before
unfolding computing
returns-clause-none_before c = refl

pub returns-clause-changes : goal.returns-clause-changes
unfolding computing
returns-clause-changes c = refl

pub returns-clause-of_page : goal.returns-clause-of_page
unfolding computing
returns-clause-of_page c = refl
