use Rattle.std.proofs.Common.{refl}
use Rattle.wk_table_rules.specs.Computing.{computing}
use Rattle.wk_examples.proofs.tables.stored_rows.Goals as goal

pub returns : goal.returns
unfolding computing
returns c = refl
