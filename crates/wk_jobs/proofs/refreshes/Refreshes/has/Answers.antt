use Rattle.std.proofs.Common.{◌∙◌, ap, eqb}
use Rattle.std.specs.Prelude.{is_some}
use Rattle.std.specs.List.{list_any}
use Rattle.wk_jobs.specs.Entries.{entries}
use Rattle.wk_jobs.proofs.Entries.{is_some-number_of}
use Rattle.wk_jobs.proofs.refreshes.Refreshes.has.Goals as goal

pub returns : goal.returns
returns c =
    let page = c.args.page in
    c.contains_key.ensures ∙ ap is_some (c.self.invariant.numbers page)
    ∙ is_some-number_of (entries c.self.inside.claimed.items c.self.inside.queued.items) page
    ∙ ap (λ r. list_any (λ job. eqb job.page page) r.jobs) c.self.view_is
