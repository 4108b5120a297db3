use Rattle.std.proofs.Common.{◌≡◌}
use Rattle.std.specs.Prelude.{flat_map}
use Rattle.wk_wiki_rules.specs.Members.{members_behind}
use Rattle.wk_index.specs.Listing.{members_from, page_members}
use Rattle.wk_index.proofs.MembersLaws.{IsRun, own_entries}
use Rattle.wk_index.proofs.members.members.Given as goal

abbrev pub invariant-loop-entry : goal.invariant-loop-entry
invariant-loop-entry l =
    (members_from l.most l.listed.items l.left (flat_map (page_members l.stored) (own_entries l.category l.entry-iterator)) ≡ members_behind l.stored l.category l.passed l.most)
    × IsRun l.category l.entry-iterator
