use Rattle.std.proofs.Common.{◌≡◌, ◌+◌, ◌≤◌, ◌^◌, length, take}
use Rattle.wk_wiki_rules.specs.Steps.{all_queued}
use Rattle.wk_live.proofs.fans.queue_all.Given as goal

abbrev pub invariant-loop-page : goal.invariant-loop-page
invariant-loop-page l = record {
  lists : l.jobs.lists ≡ all_queued l.fn.jobs.lists (take l.page-index l.pages);
  room : length l.pages ≤ l.jobs.refresh_room + l.page-index;
  numbers : l.jobs.lists.next + length l.pages ≤ 2 ^ 63 + l.page-index;
}
