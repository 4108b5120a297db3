use Rattle.wk_table_rules.specs.Rows.{LinkColumns}
use Rattle.wk_good_rows.proofs.Orders.{row_lt-carries}
use Rattle.wk_good_rows.proofs.links.is_good_link.Goals as goal

pub is_behind-requires-clause-carries : goal.is_behind-requires-clause-carries
is_behind-requires-clause-carries c = row_lt-carries (λ (row : LinkColumns). row.from) (λ (row : LinkColumns). row.target)
