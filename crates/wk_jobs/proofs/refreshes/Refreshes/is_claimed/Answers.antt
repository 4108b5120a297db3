use Rattle.std.proofs.Common.{◌∙◌, ap, sym, eqb, ◌&&◌, Bool, ℕ}
use Rattle.std.specs.Prelude.{is_some, position}
use Rattle.std.specs.List.{list_any}
use Rattle.wk_wiki_rules.specs.Jobs.{is_claimed}
use Rattle.wk_jobs.specs.declared.refreshes.ClaimedJob.{ClaimedJob}
use Rattle.wk_jobs.proofs.Entries.{claimed-there}
use Rattle.wk_jobs.proofs.Places.{position-there}
use Rattle.wk_jobs.proofs.refreshes.Refreshes.is_claimed.Goals as goal

abbrev is_of : ℕ → ClaimedJob → Bool
is_of page job = eqb job.page page

pub returns : goal.returns
returns c =
    let page = c.args.page in
    c.is_some.ensures ∙ ap is_some (c.place_of_page.ensures ∙ ap (position (is_of page)) c.deref.ensures.value)
    ∙ position-there (is_of page) c.self.inside.claimed.items
    ∙ sym (claimed-there page c.self.inside.claimed.items c.self.inside.queued.items)
    ∙ ap (λ r. list_any (λ job. eqb job.page page && is_claimed job) r.jobs) c.self.view_is
