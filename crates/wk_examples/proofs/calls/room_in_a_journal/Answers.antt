use Rattle.std.proofs.Common.{refl}
use Rattle.wk_wiki_rules.specs.Computing.{computing}
use Rattle.wk_examples.proofs.calls.room_in_a_journal.Goals as goal

pub returns-clause-claim_refused : goal.returns-clause-claim_refused
unfolding computing
returns-clause-claim_refused c = refl

pub returns-clause-claim_made : goal.returns-clause-claim_made
unfolding computing
returns-clause-claim_made c = refl

pub returns-clause-fan_refused : goal.returns-clause-fan_refused
unfolding computing
returns-clause-fan_refused c = refl

pub returns-clause-fan_made : goal.returns-clause-fan_made
unfolding computing
returns-clause-fan_made c = refl

pub returns-clause-one_out : goal.returns-clause-one_out
unfolding computing
returns-clause-one_out c = refl
