use Rattle.std.proofs.Common.{◌≡◌, ◌++◌, List, drop}
use Rattle.wk_wiki_rules.specs.Members.{MemberPage}
use Rattle.wk_index.specs.Listing.{members_from, own_members}
use Rattle.wk_index.proofs.members.push_own.Given as goal

abbrev pub invariant-loop-member : goal.invariant-loop-member
invariant-loop-member l =
    (rest : List MemberPage)
    → members_from l.most l.listed.items l.left (own_members l.entry (drop l.member-index l.members) ++ rest)
    ≡ members_from l.most l.initial.listed.items l.passed (own_members l.entry l.members ++ rest)
