-- The page that a link row is of.
use Rattle.std.specs.Prelude.{Bool, ◌&&◌}
use Rattle.std.specs.Ordering.{int_eq}
use Rattle.wk_table_rules.specs.Rows.{LinkColumns, StoreTables}
use Rattle.wk_table_rules.specs.Changes.{has_page, namespace_of}

-- the row is of a page, whose namespace it has
abbrev pub is_from_page : StoreTables → LinkColumns → Bool
is_from_page tables row = has_page tables row.from && int_eq row.from_namespace (namespace_of tables row.from)
