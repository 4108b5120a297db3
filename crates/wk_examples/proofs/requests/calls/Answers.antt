use Rattle.std.proofs.Common.{refl}
use Rattle.wk_request_rules.specs.Computing.{computing as requests}
use Rattle.wk_examples.proofs.requests.calls.Goals as goal

pub returns-clause-nothing : goal.returns-clause-nothing
unfolding requests
returns-clause-nothing c = refl

pub returns-clause-unknown_action : goal.returns-clause-unknown_action
unfolding requests
returns-clause-unknown_action c = refl

pub returns-clause-empty_query : goal.returns-clause-empty_query
unfolding requests
returns-clause-empty_query c = refl

pub returns-clause-empty_list : goal.returns-clause-empty_list
unfolding requests
returns-clause-empty_list c = refl

pub returns-clause-unknown_list : goal.returns-clause-unknown_list
unfolding requests
returns-clause-unknown_list c = refl

pub returns-clause-unknown_prop : goal.returns-clause-unknown_prop
unfolding requests
returns-clause-unknown_prop c = refl

pub returns-clause-unknown_meta : goal.returns-clause-unknown_meta
unfolding requests
returns-clause-unknown_meta c = refl

pub returns-clause-first_of_three : goal.returns-clause-first_of_three
unfolding requests
returns-clause-first_of_three c = refl

pub returns-clause-tokens : goal.returns-clause-tokens
unfolding requests
returns-clause-tokens c = refl

pub returns-clause-site_info : goal.returns-clause-site_info
unfolding requests
returns-clause-site_info c = refl
