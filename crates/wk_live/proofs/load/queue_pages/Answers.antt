use Rattle.std.proofs.Common.{◌≡◌, ◌+◌, ap, sym, ◌∙◌, arith}
use Rattle.wk_wiki_rules.specs.Jobs.{JobLists, refresh_queued}
use Rattle.wk_live.proofs.FanLaws.{next-queued}
use Rattle.wk_live.proofs.LoadLaws.{queued-more}
use Rattle.wk_live.proofs.load.queue_pages.Goals as goal

pub loop-page-preserved : goal.loop-page-preserved
loop-page-preserved c =
    let page = c.loop-page.page + 1 in
    let next = next-queued c.loop-page.jobs.lists (c.loop-page.page + 1) in
    let same : c.queue_refresh.new.self.lists.next ≡ (refresh_queued c.loop-page.jobs.lists (c.loop-page.page + 1)).next = ap (λ (lists : JobLists). lists.next) c.in_ok-queue_refresh.ensures.lists in
    record {
      lists =
          c.in_ok-queue_refresh.ensures.lists
          ∙ (ap (λ (lists : JobLists). refresh_queued lists (c.loop-page.page + 1)) c.loop-page.invariant.lists ∙ sym (queued-more c.args.jobs.now.lists c.loop-page.page));
      numbers = omega (arith, next, same, c.loop-page.invariant.numbers);
    }
