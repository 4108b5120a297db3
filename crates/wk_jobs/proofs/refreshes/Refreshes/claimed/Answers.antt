use Rattle.std.proofs.Common.{◌∙◌, ap, sym}
use Rattle.std.specs.Prelude.{count_by}
use Rattle.wk_wiki_rules.specs.Jobs.{is_claimed}
use Rattle.wk_jobs.proofs.Entries.{count-claimed}
use Rattle.wk_jobs.proofs.refreshes.Refreshes.claimed.Goals as goal

pub returns : goal.returns
returns c =
    c.len.ensures ∙ c.self.inside.claimed.ok.0
    ∙ sym (count-claimed c.self.inside.claimed.items c.self.inside.queued.items) ∙ ap (λ r. count_by is_claimed r.jobs) c.self.view_is
