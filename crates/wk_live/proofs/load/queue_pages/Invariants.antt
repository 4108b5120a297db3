use Rattle.std.proofs.Common.{◌≡◌, ◌+◌, ◌≤◌}
use Rattle.std.specs.List.{range_with_len}
use Rattle.wk_wiki_rules.specs.Steps.{all_queued}
use Rattle.wk_live.proofs.load.queue_pages.Given as goal

abbrev pub invariant-loop-page : goal.invariant-loop-page
invariant-loop-page l = record {
  lists : l.jobs.lists ≡ all_queued l.fn.jobs.lists (range_with_len 1 l.page);
  numbers : l.jobs.lists.next ≤ l.fn.jobs.lists.next + l.page;
}
