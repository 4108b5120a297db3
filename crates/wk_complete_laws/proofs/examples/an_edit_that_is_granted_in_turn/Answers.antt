use Rattle.std.proofs.Common.{lit≤, refl}
use Rattle.wk_complete_laws.proofs.Runs.{empty-run}
use Rattle.wk_complete_laws.proofs.examples.an_edit_that_is_granted_in_turn.Goals as goal

pub returns-clause-run : goal.returns-clause-run
returns-clause-run c = empty-run

pub returns-clause-free : goal.returns-clause-free
returns-clause-free c = λ turn. record { turn = (refl, refl); free = refl }

pub returns-clause-unsealed : goal.returns-clause-unsealed
returns-clause-unsealed c = refl

pub returns-clause-whole : goal.returns-clause-whole
returns-clause-whole c = record { count = 0; failed = refl; rises = lit≤ tt }
