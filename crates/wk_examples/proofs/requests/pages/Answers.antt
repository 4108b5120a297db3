use Rattle.std.proofs.Common.{refl}
use Rattle.wk_request_rules.specs.Computing.{computing as requests}
use Rattle.wk_examples.proofs.requests.pages.Goals as goal

pub returns-clause-parsed : goal.returns-clause-parsed
unfolding requests
returns-clause-parsed c = refl

pub returns-clause-no_page : goal.returns-clause-no_page
unfolding requests
returns-clause-no_page c = refl

pub returns-clause-empty_title : goal.returns-clause-empty_title
unfolding requests
returns-clause-empty_title c = refl

pub returns-clause-expanded : goal.returns-clause-expanded
unfolding requests
returns-clause-expanded c = refl

pub returns-clause-expanded_in_a_page : goal.returns-clause-expanded_in_a_page
unfolding requests
returns-clause-expanded_in_a_page c = refl

pub returns-clause-nothing_to_expand : goal.returns-clause-nothing_to_expand
unfolding requests
returns-clause-nothing_to_expand c = refl
