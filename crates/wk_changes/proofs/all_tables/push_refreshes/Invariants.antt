use Rattle.std.proofs.Common.{◌≡◌, ◌++◌, map, take}
use Rattle.wk_table_rules.specs.JobTable.{refresh_row}
use Rattle.wk_wiki_rules.specs.States.{title_at}
use Rattle.wk_changes.proofs.all_tables.push_refreshes.Given as goal

abbrev pub invariant-loop-job : goal.invariant-loop-job
invariant-loop-job l = l.rows.items ≡ l.fn.rows.items ++ map (λ job. refresh_row job.number (title_at l.revs.history job.page)) (take l.job-index l.jobs)
