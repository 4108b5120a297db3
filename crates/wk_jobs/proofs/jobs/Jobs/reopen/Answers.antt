use Rattle.std.proofs.Common.{◌≡◌, ◌+◌, ◌<◌, map, max, sym, ap, ◌∙◌, subst, arith, rules}
use Rattle.std.specs.List.{fold}
use Rattle.wk_wiki_rules.specs.Jobs.{RefreshEntry, FanEntry, IsNumbered, numbers_of, queued_again}
use Rattle.wk_wiki_rules.specs.Steps.{by_number, reopened_jobs}
use Rattle.wk_wiki_rules.proofs.JobLemmas.{IsNumbered-reopened}
use Rattle.wk_jobs.specs.Held.{held}
use Rattle.wk_jobs.proofs.Numbered.{lists_with, greatest-both, next_above-fits, refreshes-apart}
use Rattle.wk_jobs.proofs.jobs.Jobs.reopen.Goals as goal

pub overflow_add-self : goal.overflow_add-self
overflow_add-self c =
    let lists = (held c.self.inside).lists in
    let same : c.greatest-both.result ≡ fold max 0 (numbers_of lists) =
    c.greatest-both.ensures ∙ ap (λ n. fold max n (map (λ (job : FanEntry). job.number) lists.fans)) c.greatest-refreshes.ensures ∙ greatest-both lists.refreshes lists.fans in
    let low = next_above-fits lists c.self.invariant in
    let wide : c.self.inside.next < 18446744073709551616 = search rules in
    omega (arith, same, low, wide)

pub reopen-requires : goal.reopen-requires
reopen-requires c = refreshes-apart (held c.self.inside).lists c.self.invariant

after : (c : goal.After-reopen) → lists_with c.reopen.new.self.jobs c.self.inside.fans.jobs (c.greatest-both.result + 1) ≡ reopened_jobs (held c.self.inside).lists
after c =
    let lists = (held c.self.inside).lists in
    let same : c.greatest-both.result ≡ fold max 0 (numbers_of lists) =
    c.greatest-both.ensures ∙ ap (λ n. fold max n (map (λ (job : FanEntry). job.number) lists.fans)) c.greatest-refreshes.ensures ∙ greatest-both lists.refreshes lists.fans in
    ap (λ jobs. lists_with jobs lists.fans (c.greatest-both.result + 1)) c.reopen.ensures.jobs
    ∙ ap (λ n. lists_with (map queued_again (by_number (λ (job : RefreshEntry). job.number) lists.refreshes)) lists.fans (n + 1)) same

pub invariant_of-self : goal.invariant_of-self
invariant_of-self c = subst IsNumbered (sym (after c)) (IsNumbered-reopened (held c.self.inside).lists c.self.invariant)

pub returns-clause-lists : goal.returns-clause-lists
returns-clause-lists c = after c ∙ ap (λ h. reopened_jobs h.lists) c.self.view_is
