use Rattle.std.proofs.Common.{refl}
use Rattle.wk_table_rules.specs.Computing.{computing}
use Rattle.wk_examples.proofs.tables.revisions.Goals as goal

pub returns-clause-gap : goal.returns-clause-gap
unfolding computing
returns-clause-gap c = refl

pub returns-clause-no_page : goal.returns-clause-no_page
unfolding computing
returns-clause-no_page c = refl

pub returns-clause-deletion_with_text : goal.returns-clause-deletion_with_text
unfolding computing
returns-clause-deletion_with_text c = refl

pub returns-clause-wrong_length : goal.returns-clause-wrong_length
unfolding computing
returns-clause-wrong_length c = refl
