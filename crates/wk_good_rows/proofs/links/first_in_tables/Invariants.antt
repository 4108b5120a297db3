use Rattle.std.proofs.Common.{◌≡◌, ◌+◌, drop, option_map}
use Rattle.wk_table_rules.specs.GoodStore.{first_in_tables}
use Rattle.wk_good_rows.proofs.links.first_in_tables.Given as goal

abbrev pub invariant-loop-table : goal.invariant-loop-table
invariant-loop-table l = first_in_tables l.tables ≡ option_map (λ row. l.rows + row) (first_in_tables (drop l.table-index l.tables))
