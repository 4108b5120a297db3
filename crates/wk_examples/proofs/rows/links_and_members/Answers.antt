use Rattle.std.proofs.Common.{refl}
use Rattle.wk_examples.specs.Computing.{computing}
use Rattle.wk_examples.proofs.rows.links_and_members.Goals as goal

pub returns-clause-last_prefix : goal.returns-clause-last_prefix
unfolding computing
returns-clause-last_prefix c = refl

pub returns-clause-order : goal.returns-clause-order
unfolding computing
returns-clause-order c = refl

pub returns-clause-sort_keys : goal.returns-clause-sort_keys
unfolding computing
returns-clause-sort_keys c = refl

pub returns-clause-missing : goal.returns-clause-missing
unfolding computing
returns-clause-missing c = refl
