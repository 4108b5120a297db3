use Rattle.std.proofs.Common.{◌≡◌, true, take}
use Rattle.std.specs.List.{list_any}
use Rattle.wk_index.specs.Entries.{KeptEntries, has_entry}
use Rattle.wk_index.proofs.EntryLaws.{Name, is_in}
use Rattle.wk_index.proofs.gathered.push_members.Given as goal

abbrev pub invariant-loop-member : goal.invariant-loop-member
invariant-loop-member l =
    ((x : Name) → list_any (is_in x) (take l.member-index l.members) ≡ true → has_entry l.entries.items x l.page ≡ true) × KeptEntries l.initial.entries.items l.entries.items
