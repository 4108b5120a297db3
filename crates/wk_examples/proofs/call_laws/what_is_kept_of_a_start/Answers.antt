use Rattle.std.proofs.Common.{codes, lit≤, refl, take}
use Rattle.std.proofs.lemmas.List.Elements.{All-from_recursion}
use Rattle.wk_wiki_rules.specs.Computing.{computing}
use Rattle.wk_wiki_rules.specs.Entries.{entries_from}
use Rattle.wk_life_laws.specs.Standing.{EntryStands}
use Rattle.wk_examples.specs.Wikis.{race, race_5, written}
use Rattle.wk_examples.proofs.call_laws.what_is_kept_of_a_start.Goals as goal

pub returns-clause-revisions : goal.returns-clause-revisions
returns-clause-revisions c = lit≤ tt

pub returns-clause-pages : goal.returns-clause-pages
returns-clause-pages c = lit≤ tt

pub returns-clause-entries : goal.returns-clause-entries
returns-clause-entries c = All-from_recursion (EntryStands race_5.history) (entries_from 1 (take 5 race)) (
  record { revision = written 1 0 11 (codes "{{T}}{{U}}"); there = refl; positive = lit≤ tt; within = lit≤ tt },
  (
    record { revision = written 2 0 12 (codes "t1"); there = refl; positive = lit≤ tt; within = lit≤ tt },
    (
      record { revision = written 3 0 13 (codes "u1"); there = refl; positive = lit≤ tt; within = lit≤ tt },
      (tt, (record { revision = written 2 2 14 (codes "t2"); there = refl; positive = lit≤ tt; within = lit≤ tt }, tt)),
    ),
  ),
)

pub returns-clause-then : goal.returns-clause-then
unfolding computing
returns-clause-then c = refl
