use Rattle.wk_table_rules.specs.Rows.{CategoryColumns, category_title}
use Rattle.wk_good_rows.proofs.Orders.{row_lt-carries}
use Rattle.wk_good_rows.proofs.links.is_good_category.Goals as goal

pub is_behind-requires-clause-carries : goal.is_behind-requires-clause-carries
is_behind-requires-clause-carries c = row_lt-carries (λ (row : CategoryColumns). row.cl_from) (λ (row : CategoryColumns). category_title row.cl_to)
