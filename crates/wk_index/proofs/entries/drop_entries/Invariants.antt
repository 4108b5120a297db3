use Rattle.wk_index.specs.Entries.{SparesEntries}
use Rattle.wk_index.proofs.entries.drop_entries.Given as goal

abbrev pub invariant-loop-member : goal.invariant-loop-member
invariant-loop-member l = SparesEntries l.rows l.page l.initial.entries.keys l.entries.keys
