use Rattle.wk_table_laws.proofs.FirstBad.{KeepsRules-from_good, IsGood-from_rules}
use Rattle.wk_table_laws.proofs.good_tables_have_good_rows.Goals as goal

pub returns-clause-rows : goal.returns-clause-rows
returns-clause-rows c = KeepsRules-from_good

pub returns-clause-tables : goal.returns-clause-tables
returns-clause-tables c = IsGood-from_rules
