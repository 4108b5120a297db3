use Rattle.std.proofs.Common.{◌≡◌, ◌+◌, ◌≤◌, [], ◌∷◌, ◌++◌, false, sym, ap, ◌∙◌, subst}
use Rattle.wk_wiki_rules.specs.Jobs.{IsNumbered, has_fan}
use Rattle.wk_jobs.specs.Held.{held}
use Rattle.wk_jobs.proofs.Numbered.{lists_with, numbered-fan, numbered-fans}
use Rattle.wk_jobs.proofs.jobs.Jobs.restore_fan.Goals as goal

pub invariant_of-self-2 : goal.invariant_of-self-2
invariant_of-self-2 c =
    let lists = (held c.self.inside).lists in
    let job = c.args.job in
    let later : lists.next ≤ job.number = subst (λ h. h.lists.next ≤ job.number) (sym c.self.view_is) c.requires.next in
    let none : has_fan lists job.title ≡ false = ap (λ h. has_fan h.lists job.title) c.self.view_is ∙ c.requires.none in
    let pushed = c.push.ensures.jobs ∙ ap (λ jobs. jobs ++ job ∷ []) c.in_ok-reserve.ensures.jobs in
    let after = numbered-fans lists.refreshes (lists.fans ++ job ∷ []) c.push.new.self.jobs (job.number + 1) pushed (numbered-fan lists job later none c.self.invariant) in
    subst (λ n. IsNumbered (lists_with lists.refreshes c.push.new.self.jobs (n + 1))) (sym (ap (λ j. j.number) c.job.view_is)) after
