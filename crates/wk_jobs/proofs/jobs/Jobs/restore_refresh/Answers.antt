use Rattle.std.proofs.Common.{◌≡◌, ◌+◌, ◌≤◌, [], ◌∷◌, ◌++◌, false, None, sym, ap, ◌∙◌, subst}
use Rattle.wk_wiki_rules.specs.Jobs.{RefreshEntry, IsNumbered, has_refresh}
use Rattle.wk_wiki_rules.proofs.JobLemmas.{IsNumbered-queued}
use Rattle.wk_jobs.specs.Held.{held}
use Rattle.wk_jobs.proofs.Numbered.{lists_with, numbered-later, numbered-refreshes, refresh_queued-new}
use Rattle.wk_jobs.proofs.jobs.Jobs.restore_refresh.Goals as goal

pub invariant_of-self-2 : goal.invariant_of-self-2
invariant_of-self-2 c =
    let lists = (held c.self.inside).lists in
    let n = c.args.number in
    let later : lists.next ≤ n = subst (λ h. h.lists.next ≤ n) (sym c.self.view_is) c.requires.next in
    let none : has_refresh lists c.args.page ≡ false = ap (λ h. has_refresh h.lists c.args.page) c.self.view_is ∙ c.requires.none in
    let new : RefreshEntry = record { number = n; page = c.args.page; ticket = None } in
    let pushed = c.push.ensures.jobs ∙ ap (λ jobs. jobs ++ new ∷ []) c.in_ok-reserve.ensures.jobs in
    numbered-refreshes (lists.refreshes ++ new ∷ []) c.push.new.self.jobs lists.fans (n + 1) pushed
    (subst IsNumbered (refresh_queued-new (lists_with lists.refreshes lists.fans n) c.args.page none)
    (IsNumbered-queued (lists_with lists.refreshes lists.fans n) c.args.page (numbered-later lists n later c.self.invariant)))
