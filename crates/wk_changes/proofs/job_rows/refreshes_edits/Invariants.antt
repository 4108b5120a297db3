use Rattle.std.proofs.Common.{◌≡◌, map, take}
use Rattle.wk_wiki_rules.specs.Steps.{all_queued}
use Rattle.wk_wiki_rules.specs.States.{title_at}
use Rattle.wk_wiki_rules.specs.TableChanges.{refreshes_edits}
use Rattle.wk_tables.specs.Edits.{edit_of}
use Rattle.wk_changes.proofs.job_rows.refreshes_edits.Given as goal

abbrev pub invariant-loop-page : goal.invariant-loop-page
invariant-loop-page l = record {
  edits : map edit_of l.edits.items ≡ refreshes_edits (title_at l.revs.history) l.jobs.lists (take l.page-index l.pages);
  number : l.number ≡ (all_queued l.jobs.lists (take l.page-index l.pages)).next;
}
