use Rattle.std.proofs.Common.{◌≡◌, List, map, sym, ap, ◌∙◌, subst, arith}
use Rattle.std.specs.VecDeque.{deque_len, deque_capacity}
use Rattle.wk_wiki_rules.specs.Jobs.{RefreshEntry, queued_again}
use Rattle.wk_wiki_rules.specs.Steps.{by_number}
use Rattle.wk_jobs.specs.Entries.{entries, number_of}
use Rattle.wk_jobs.proofs.Entries.{IsOne}
use Rattle.wk_jobs.proofs.Sorting.{IsOne-reopened, number_of-reopened}
use Rattle.wk_jobs.proofs.refreshes.Refreshes.reopen.Goals as goal

abbrev again : List RefreshEntry → List RefreshEntry
again jobs = map queued_again (by_number (λ (job : RefreshEntry). job.number) jobs)

after : (c : goal.After-clear) → entries c.clear.new.self.items c.all_by_number.result.items ≡ again (entries c.self.inside.claimed.items c.self.inside.queued.items)
after c =
    ap (λ claimed. entries claimed c.all_by_number.result.items) c.clear.ensures.items ∙ c.all_by_number.ensures.jobs
    ∙ ap (λ claimed. again (entries claimed c.replace-queued.result.items)) c.deref.ensures.value
    ∙ ap (λ queue. again (entries c.self.inside.claimed.items queue.items)) c.replace-queued.ensures.value

pub invariant_of-self : goal.invariant_of-self
invariant_of-self c =
    let jobs = entries c.self.inside.claimed.items c.self.inside.queued.items in
    let len = ap (λ queue. deque_len queue) c.replace-queued.ensures.value in
    let capacity = ap (λ queue. deque_capacity queue) c.replace-queued.ensures.value in
    record {
      one = subst IsOne (sym (after c)) (IsOne-reopened jobs c.self.invariant.one);
      numbers = λ page. c.self.invariant.numbers page ∙ sym (number_of-reopened jobs page c.self.invariant.one) ∙ ap (λ all. number_of all page) (sym (after c));
      claimed_room = omega (arith, c.clear.ensures.len, c.clear.ensures.capacity, c.all_by_number.ensures.len, c.deref.ensures.len, len, c.self.invariant.claimed_room);
      queued_room = omega (arith, c.clear.ensures.len, c.all_by_number.ensures.len, c.all_by_number.ensures.capacity, c.deref.ensures.len, len, capacity, c.self.invariant.queued_room);
      numbers_room = c.self.invariant.numbers_room;
    }

pub returns-clause-jobs : goal.returns-clause-jobs
returns-clause-jobs c = after c ∙ ap (λ r. again r.jobs) c.self.view_is
