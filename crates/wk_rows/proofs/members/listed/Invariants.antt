use Rattle.std.proofs.Common.{◌≡◌, ◌++◌, map}
use Rattle.wk_table_rows.specs.Members.{member_of}
use Rattle.wk_rows.specs.Members.{kept_member}
use Rattle.wk_rows.proofs.members.listed.Given as goal

abbrev pub invariant-loop-category : goal.invariant-loop-category
invariant-loop-category l =
    map member_of l.listed.items ++ map kept_member l.category-iterator ≡ map kept_member l.initial.category-iterator
