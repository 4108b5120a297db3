use Rattle.std.proofs.Common.{ℕ, Bool, eqb, option_map, ap, sym, ◌∙◌}
use Rattle.std.specs.Prelude.{find}
use Rattle.wk_wiki_rules.specs.Jobs.{RefreshEntry, is_held_by}
use Rattle.wk_jobs.specs.declared.refreshes.ClaimedJob.{ClaimedJob}
use Rattle.wk_jobs.proofs.Entries.{held-entries}
use Rattle.wk_jobs.proofs.refreshes.Refreshes.page_held.Goals as goal

abbrev has : ℕ → ClaimedJob → Bool
has ticket job = eqb job.ticket ticket

pub returns : goal.returns
returns c =
    let ticket = c.args.ticket in
    c.page_of_ticket.ensures ∙ ap (λ cs. option_map (λ (job : ClaimedJob). job.page) (find (has ticket) cs)) c.deref.ensures.value
    ∙ sym (held-entries c.self.inside.claimed.items c.self.inside.queued.items ticket)
    ∙ ap (λ r. option_map (λ (job : RefreshEntry). job.page) (find (is_held_by ticket) r.jobs)) c.self.view_is
