use Rattle.std.proofs.Common.{◌≡◌, map, take}
use Rattle.wk_table_rows.specs.Members.{member_of}
use Rattle.wk_wiki_rules.specs.Names.{joined, member_eq}
use Rattle.wk_index.proofs.joined.joined_members.Given as goal

abbrev pub invariant-loop-member : goal.invariant-loop-member
invariant-loop-member l = map member_of l.members.items ≡ joined member_eq (map member_of l.old) (map member_of (take l.member-index l.new))
