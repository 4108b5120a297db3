use Rattle.std.proofs.Common.{refl}
use Rattle.wk_wiki_rules.specs.Computing.{computing}
use Rattle.wk_examples.proofs.calls.entries_and_starts.Goals as goal

pub returns-clause-entries : goal.returns-clause-entries
unfolding computing
returns-clause-entries c = refl

pub returns-clause-events : goal.returns-clause-events
unfolding computing
returns-clause-events c = refl

pub returns-clause-closed : goal.returns-clause-closed
unfolding computing
returns-clause-closed c = refl

pub returns-clause-sealed : goal.returns-clause-sealed
unfolding computing
returns-clause-sealed c = refl

pub returns-clause-start : goal.returns-clause-start
unfolding computing
returns-clause-start c = refl

pub returns-clause-start_of_a_deleted_page : goal.returns-clause-start_of_a_deleted_page
unfolding computing
returns-clause-start_of_a_deleted_page c = refl
