use Rattle.std.proofs.Common.{◌≡◌, ◌++◌, map, take}
use Rattle.wk_table_rules.specs.Changes.{link_row}
use Rattle.wk_changes.proofs.links.push_links.Given as goal

abbrev pub invariant-loop-title : goal.invariant-loop-title
invariant-loop-title l = l.rows.items ≡ l.fn.rows.items ++ map (link_row l.page l.namespace) (take l.title-index l.titles)
