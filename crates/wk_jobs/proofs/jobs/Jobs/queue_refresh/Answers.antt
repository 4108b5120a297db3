use Rattle.std.proofs.Common.{◌≡◌, ◌+◌, [], ◌∷◌, ◌++◌, false, None, sym, ap, ◌∙◌, subst}
use Rattle.wk_wiki_rules.specs.Jobs.{RefreshEntry, IsNumbered, has_refresh}
use Rattle.wk_wiki_rules.proofs.JobLemmas.{IsNumbered-queued}
use Rattle.wk_jobs.specs.Held.{held}
use Rattle.wk_jobs.proofs.Numbered.{numbered-refreshes, refresh_queued-new}
use Rattle.wk_jobs.proofs.jobs.Jobs.queue_refresh.Goals as goal

pub invariant_of-self-2 : goal.invariant_of-self-2
invariant_of-self-2 c =
    let lists = (held c.self.inside).lists in
    let none : has_refresh lists c.args.page ≡ false = sym c.has.ensures ∙ c.if-has.false in
    let new : RefreshEntry = record { number = lists.next; page = c.args.page; ticket = None } in
    let pushed = c.push.ensures.jobs ∙ ap (λ jobs. jobs ++ new ∷ []) c.in_ok-reserve.ensures.jobs in
    numbered-refreshes (lists.refreshes ++ new ∷ []) c.push.new.self.jobs lists.fans (lists.next + 1) pushed
    (subst IsNumbered (refresh_queued-new lists c.args.page none) (IsNumbered-queued lists c.args.page c.self.invariant))
