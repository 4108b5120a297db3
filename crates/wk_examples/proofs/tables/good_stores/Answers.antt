use Rattle.std.proofs.Common.{refl}
use Rattle.wk_table_rules.specs.Computing.{computing}
use Rattle.wk_examples.proofs.tables.good_stores.Goals as goal

pub returns-clause-good : goal.returns-clause-good
unfolding computing
returns-clause-good c = refl

pub returns-clause-new : goal.returns-clause-new
unfolding computing
returns-clause-new c = refl
