use Rattle.std.proofs.Common.{refl}
use Rattle.wk_request_rules.specs.Computing.{computing as requests}
use Rattle.wk_examples.proofs.requests.refused_edits.Goals as goal

pub returns-clause-not_posted : goal.returns-clause-not_posted
unfolding requests
returns-clause-not_posted c = refl

pub returns-clause-no_token : goal.returns-clause-no_token
unfolding requests
returns-clause-no_token c = refl

pub returns-clause-other_token : goal.returns-clause-other_token
unfolding requests
returns-clause-other_token c = refl

pub returns-clause-no_title : goal.returns-clause-no_title
unfolding requests
returns-clause-no_title c = refl

pub returns-clause-no_text : goal.returns-clause-no_text
unfolding requests
returns-clause-no_text c = refl

pub returns-clause-bad_base : goal.returns-clause-bad_base
unfolding requests
returns-clause-bad_base c = refl

pub returns-clause-bad_point : goal.returns-clause-bad_point
unfolding requests
returns-clause-bad_point c = refl
