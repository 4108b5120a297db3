use Rattle.std.proofs.Common.{refl}
use Rattle.wk_wiki_rules.specs.Computing.{computing}
use Rattle.wk_examples.proofs.calls.changes_of_tables.Goals as goal

pub returns-clause-rows : goal.returns-clause-rows
unfolding computing
returns-clause-rows c = refl

pub returns-clause-saved : goal.returns-clause-saved
unfolding computing
returns-clause-saved c = record { fitting = refl; result = refl }

pub returns-clause-saved_again : goal.returns-clause-saved_again
unfolding computing
returns-clause-saved_again c = record { fitting = refl; result = refl }

pub returns-clause-refreshed : goal.returns-clause-refreshed
unfolding computing
returns-clause-refreshed c = record { fitting = refl; result = refl }

pub returns-clause-job : goal.returns-clause-job
unfolding computing
returns-clause-job c = refl

pub returns-clause-fanned : goal.returns-clause-fanned
unfolding computing
returns-clause-fanned c = record { fitting = refl; result = refl }

pub returns-clause-fanned_out : goal.returns-clause-fanned_out
unfolding computing
returns-clause-fanned_out c = record { fitting = refl; result = refl }

pub returns-clause-migrated : goal.returns-clause-migrated
unfolding computing
returns-clause-migrated c = record { fitting = refl; result = refl }
