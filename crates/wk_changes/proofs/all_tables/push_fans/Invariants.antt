use Rattle.std.proofs.Common.{◌≡◌, ◌++◌, map}
use Rattle.std.specs.Vec.Iter.{into_iter_items}
use Rattle.wk_wiki_rules.specs.TableChanges.{row_of_fan}
use Rattle.wk_changes.proofs.all_tables.push_fans.Given as goal

abbrev pub invariant-loop-job : goal.invariant-loop-job
invariant-loop-job l = l.rows.items ++ map row_of_fan (into_iter_items l.job-iterator) ≡ l.fn.rows.items ++ map row_of_fan (into_iter_items l.initial.job-iterator)
