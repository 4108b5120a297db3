use Rattle.std.proofs.Common.{◌≡◌, ℕ, ◌<◌, List, [], ◌∷◌, length, get_or, false, true, Some, None, sym, ap, ◌∙◌, arith, refl}
use Rattle.std.specs.Prelude.{find, option_map}
use Rattle.wk_wiki_rules.specs.Jobs.{RefreshEntry, is_queued}
use Rattle.wk_jobs.specs.Entries.{entries, queued_entry}
use Rattle.wk_jobs.specs.declared.refreshes.ClaimedJob.{ClaimedJob}
use Rattle.wk_jobs.specs.declared.refreshes.QueuedJob.{QueuedJob}
use Rattle.wk_jobs.proofs.Entries.{first_queued-entries, first_queued-none}
use Rattle.wk_jobs.proofs.refreshes.Refreshes.first_queued.Goals as goal

front-is : (cs : List ClaimedJob) (qs : List QueuedJob) (q : QueuedJob) → 0 < length qs → q ≡ get_or qs 0 q → Some q.page ≡ option_map (λ (job : RefreshEntry). job.page) (find is_queued (entries cs qs))
front-is cs [] q some is = absurd (omega (arith, some))
front-is cs (x ∷ qs) q some is = ap (λ (j : QueuedJob). Some j.page) is ∙ sym (ap (option_map (λ (job : RefreshEntry). job.page)) (first_queued-entries cs x qs))

none-is : (cs : List ClaimedJob) (qs : List QueuedJob) → (0 < length qs → false ≡ true) → None ≡ option_map (λ (job : RefreshEntry). job.page) (find is_queued (entries cs qs))
none-is cs [] none = sym (ap (option_map (λ (job : RefreshEntry). job.page)) (first_queued-none cs))
none-is cs (x ∷ qs) none = absurd (let e : false ≡ true = none (omega arith) in cc)

pub returns-in-Some : goal.returns-in-Some
returns-in-Some c =
    front-is c.self.inside.claimed.items c.self.inside.queued.items c.in-Some.job.now (let len = c.self.inside.queued.ok.0 in let some = c.in-Some.ensures.variant.0 refl in omega (arith, len, some)) c.in-Some.ensures.lookup
    ∙ ap (λ r. option_map (λ (job : RefreshEntry). job.page) (find is_queued r.jobs)) c.self.view_is

pub returns-in-None : goal.returns-in-None
returns-in-None c =
    none-is c.self.inside.claimed.items c.self.inside.queued.items (λ some. let len = c.self.inside.queued.ok.0 in c.in-None.ensures.variant.1 (omega (arith, len, some)))
    ∙ ap (λ r. option_map (λ (job : RefreshEntry). job.page) (find is_queued r.jobs)) c.self.view_is
