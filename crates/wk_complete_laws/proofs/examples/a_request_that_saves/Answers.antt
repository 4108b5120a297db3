use Rattle.std.proofs.Common.{lit≤, refl}
use Rattle.wk_answer_rules.specs.Computing.{computing}
use Rattle.wk_complete_laws.proofs.examples.a_request_that_saves.Goals as goal

pub returns-clause-unsealed : goal.returns-clause-unsealed
returns-clause-unsealed c = λ saves. refl

pub returns-clause-whole : goal.returns-clause-whole
returns-clause-whole c = record { whole = refl; count = lit≤ tt }

pub returns-clause-event : goal.returns-clause-event
unfolding computing
returns-clause-event c = refl
