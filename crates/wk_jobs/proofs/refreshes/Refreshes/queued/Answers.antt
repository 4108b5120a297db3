use Rattle.std.proofs.Common.{◌∙◌, ap, sym}
use Rattle.std.specs.Prelude.{count_by}
use Rattle.wk_wiki_rules.specs.Jobs.{is_queued}
use Rattle.wk_jobs.proofs.Entries.{count-queued}
use Rattle.wk_jobs.proofs.refreshes.Refreshes.queued.Goals as goal

pub returns : goal.returns
returns c =
    c.len.ensures ∙ c.self.inside.queued.ok.0
    ∙ sym (count-queued c.self.inside.claimed.items c.self.inside.queued.items) ∙ ap (λ r. count_by is_queued r.jobs) c.self.view_is
