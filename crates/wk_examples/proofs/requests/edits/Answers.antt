use Rattle.std.proofs.Common.{refl}
use Rattle.wk_request_rules.specs.Computing.{computing as requests}
use Rattle.wk_examples.proofs.requests.edits.Goals as goal

pub returns-clause-plain : goal.returns-clause-plain
unfolding requests
returns-clause-plain c = refl

pub returns-clause-all : goal.returns-clause-all
unfolding requests
returns-clause-all c = refl

pub returns-clause-in_the_body : goal.returns-clause-in_the_body
unfolding requests
returns-clause-in_the_body c = refl

pub returns-clause-first_value : goal.returns-clause-first_value
unfolding requests
returns-clause-first_value c = refl

pub returns-clause-deletion : goal.returns-clause-deletion
unfolding requests
returns-clause-deletion c = refl
