use Rattle.std.proofs.Common.{◌≡◌, ◌++◌, map, take}
use Rattle.wk_table_rules.specs.Changes.{category_row}
use Rattle.wk_table_rows.specs.Members.{member_of}
use Rattle.wk_changes.proofs.links.push_members.Given as goal

abbrev pub invariant-loop-member : goal.invariant-loop-member
invariant-loop-member l = l.rows.items ≡ l.fn.rows.items ++ map (category_row l.page) (map member_of (take l.member-index l.members))
