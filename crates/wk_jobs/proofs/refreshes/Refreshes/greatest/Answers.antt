use Rattle.std.proofs.Common.{◌∙◌, ap, map, max}
use Rattle.std.specs.List.{fold}
use Rattle.wk_wiki_rules.specs.Jobs.{RefreshEntry}
use Rattle.wk_jobs.specs.declared.refreshes.ClaimedJob.{ClaimedJob}
use Rattle.wk_jobs.specs.declared.refreshes.QueuedJob.{QueuedJob}
use Rattle.wk_jobs.proofs.Numbered.{greatest-entries}
use Rattle.wk_jobs.proofs.refreshes.Refreshes.greatest.Goals as goal

pub returns : goal.returns
returns c =
    let front = c.as_slices.result.0.now in
    let behind = c.as_slices.result.1.now in
    c.greatest.ensures
    ∙ ap (λ n. fold max n (map (λ (job : QueuedJob). job.number) behind))
    (c.greatest-waiting.ensures ∙ ap (λ n. fold max n (map (λ (job : QueuedJob). job.number) front))
    (c.greatest-claimed.ensures ∙ ap (λ jobs. fold max 0 (map (λ (job : ClaimedJob). job.number) jobs)) c.deref.ensures.value))
    ∙ greatest-entries c.self.inside.claimed.items front behind c.self.inside.queued.items c.as_slices.ensures.items
    ∙ ap (λ r. fold max 0 (map (λ (job : RefreshEntry). job.number) r.jobs)) c.self.view_is
