use Rattle.std.proofs.Common.{refl}
use Rattle.wk_table_rules.specs.Computing.{computing}
use Rattle.wk_examples.proofs.tables.page_ids.Goals as goal

pub returns-clause-gap : goal.returns-clause-gap
unfolding computing
returns-clause-gap c = refl

pub returns-clause-zero : goal.returns-clause-zero
unfolding computing
returns-clause-zero c = refl

pub returns-clause-twice : goal.returns-clause-twice
unfolding computing
returns-clause-twice c = refl

pub returns-clause-before_titles : goal.returns-clause-before_titles
unfolding computing
returns-clause-before_titles c = refl
