use Rattle.std.proofs.Common.{refl}
use Rattle.wk_request_rules.specs.Computing.{computing as requests}
use Rattle.wk_examples.proofs.requests.listings.Goals as goal

pub returns-clause-backlinks : goal.returns-clause-backlinks
unfolding requests
returns-clause-backlinks c = refl

pub returns-clause-greatest : goal.returns-clause-greatest
unfolding requests
returns-clause-greatest c = refl

pub returns-clause-above_the_greatest : goal.returns-clause-above_the_greatest
unfolding requests
returns-clause-above_the_greatest c = refl

pub returns-clause-changes : goal.returns-clause-changes
unfolding requests
returns-clause-changes c = refl

pub returns-clause-revisions : goal.returns-clause-revisions
unfolding requests
returns-clause-revisions c = refl

pub returns-clause-with_content : goal.returns-clause-with_content
unfolding requests
returns-clause-with_content c = refl

pub returns-clause-no_title : goal.returns-clause-no_title
unfolding requests
returns-clause-no_title c = refl

pub returns-clause-zero : goal.returns-clause-zero
unfolding requests
returns-clause-zero c = refl

pub returns-clause-other_spelling : goal.returns-clause-other_spelling
unfolding requests
returns-clause-other_spelling c = refl

pub returns-clause-content_with_a_bad_limit : goal.returns-clause-content_with_a_bad_limit
unfolding requests
returns-clause-content_with_a_bad_limit c = refl

pub returns-clause-too_great : goal.returns-clause-too_great
unfolding requests
returns-clause-too_great c = refl

pub returns-clause-bad_place : goal.returns-clause-bad_place
unfolding requests
returns-clause-bad_place c = refl

pub returns-clause-point_before_limit : goal.returns-clause-point_before_limit
unfolding requests
returns-clause-point_before_limit c = refl
