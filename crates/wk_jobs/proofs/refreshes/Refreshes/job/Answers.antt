use Rattle.std.proofs.Common.{◌≡◌, ℕ, Bool, false, eqb, Some, None, option_map, sym, ap, ◌∙◌}
use Rattle.std.specs.Prelude.{position}
use Rattle.std.specs.List.{list_any}
use Rattle.std.proofs.lemmas.List.Quantifiers.{position-Some}
use Rattle.wk_wiki_rules.specs.Jobs.{RefreshEntry}
use Rattle.wk_jobs.specs.Entries.{claimed_entry, job_of}
use Rattle.wk_jobs.specs.declared.refreshes.ClaimedJob.{ClaimedJob}
use Rattle.wk_jobs.proofs.Entries.{job_of-claimed, job_of-queued}
use Rattle.wk_jobs.proofs.Places.{position-absent}
use Rattle.wk_jobs.proofs.refreshes.Refreshes.job.Goals as goal

abbrev is_of : ℕ → ClaimedJob → Bool
is_of page job = eqb job.page page

pub returns-in-Some : goal.returns-in-Some
returns-in-Some c =
    let page = c.args.page in
    let cs = c.self.inside.claimed.items in
    let job = c.index-job.result.now in
    let found : position (is_of page) cs ≡ Some c.in-Some.place = ap (position (is_of page)) (sym c.deref.ensures.value) ∙ sym c.in-Some.ensures in
    let at = position-Some (is_of page) cs c.in-Some.place job found in
    ap Some c.claimed_job.ensures ∙ ap (λ (j : ClaimedJob). Some (claimed_entry j)) c.index-job.ensures
    ∙ sym (job_of-claimed cs c.self.inside.queued.items page c.in-Some.place job at.0 at.1 at.2) ∙ ap (λ r. job_of r.jobs page) c.self.view_is

pub returns-in-Some-get : goal.returns-in-Some-get
returns-in-Some-get c =
    let page = c.args.page in
    let cs = c.self.inside.claimed.items in
    let qs = c.self.inside.queued.items in
    let none : list_any (is_of page) cs ≡ false = position-absent (is_of page) cs (c.in_default.ensures ∙ ap (position (is_of page)) c.deref.ensures.value) in
    let entry : ℕ → RefreshEntry = λ number. record { number = number; page = page; ticket = None } in
    ap (option_map entry) (c.in-Some-get.ensures.value ∙ c.self.invariant.numbers page) ∙ sym (job_of-queued cs qs page none) ∙ ap (λ r. job_of r.jobs page) c.self.view_is
