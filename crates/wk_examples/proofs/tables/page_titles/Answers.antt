use Rattle.std.proofs.Common.{refl}
use Rattle.wk_table_rules.specs.Computing.{computing}
use Rattle.wk_examples.proofs.tables.page_titles.Goals as goal

pub returns-clause-small_letter : goal.returns-clause-small_letter
unfolding computing
returns-clause-small_letter c = refl

pub returns-clause-other_namespace : goal.returns-clause-other_namespace
unfolding computing
returns-clause-other_namespace c = refl

pub returns-clause-no_namespace : goal.returns-clause-no_namespace
unfolding computing
returns-clause-no_namespace c = refl

pub returns-clause-negative : goal.returns-clause-negative
unfolding computing
returns-clause-negative c = refl

pub returns-clause-twice : goal.returns-clause-twice
unfolding computing
returns-clause-twice c = refl
