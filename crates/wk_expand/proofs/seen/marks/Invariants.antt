use Rattle.std.proofs.Common.{◌≡◌, ◌++◌, map}
use Rattle.wk_expand.specs.Drafts.{with_mark}
use Rattle.wk_expand.specs.Entries.{entry_reads}
use Rattle.wk_expand.proofs.seen.marks.Given as goal

-- what is marked, with what is left
abbrev pub invariant-entries : goal.invariant-entries
invariant-entries l = l.reads.items ++ map with_mark (entry_reads l.asked-iterator) ≡ map with_mark (entry_reads l.answers.entries)
