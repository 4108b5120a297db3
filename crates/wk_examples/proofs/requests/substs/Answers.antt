use Rattle.std.proofs.Common.{refl}
use Rattle.wk_request_rules.specs.Computing.{computing as requests}
use Rattle.wk_examples.proofs.requests.substs.Goals as goal

pub returns-clause-there : goal.returns-clause-there
unfolding requests
returns-clause-there c = refl

pub returns-clause-empty : goal.returns-clause-empty
unfolding requests
returns-clause-empty c = refl

pub returns-clause-in_the_body : goal.returns-clause-in_the_body
unfolding requests
returns-clause-in_the_body c = refl

pub returns-clause-other_case : goal.returns-clause-other_case
unfolding requests
returns-clause-other_case c = refl

pub returns-clause-deletion : goal.returns-clause-deletion
unfolding requests
returns-clause-deletion c = refl

pub returns-clause-parsed : goal.returns-clause-parsed
unfolding requests
returns-clause-parsed c = refl

pub returns-clause-expanded : goal.returns-clause-expanded
unfolding requests
returns-clause-expanded c = refl
