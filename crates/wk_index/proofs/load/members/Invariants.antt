use Rattle.std.proofs.Common.{◌≡◌, map, take}
use Rattle.wk_table_rules.specs.Stored.{member_of}
use Rattle.wk_table_rows.specs.Members.{member_of as member_of_triple}
use Rattle.wk_index.proofs.load.members.Given as goal

abbrev pub invariant-loop-row : goal.invariant-loop-row
invariant-loop-row l = map member_of_triple l.members.items ≡ map member_of (take l.row-index l.rows)
