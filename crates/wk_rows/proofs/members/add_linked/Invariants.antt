use Rattle.std.proofs.Common.{◌≡◌, map, drop}
use Rattle.wk_rows.specs.Members.{kept_member, members_by, with_members}
use Rattle.wk_rows.proofs.members.add_linked.Given as goal

abbrev pub invariant-loop-link : goal.invariant-loop-link
invariant-loop-link l =
    with_members (map kept_member l.members.entries) (members_by l.key (drop l.link-index l.found)) ≡ with_members (map kept_member l.initial.members.entries) (members_by l.key l.found)
