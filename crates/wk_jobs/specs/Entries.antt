-- What the claimed and the queued refresh jobs stand for, and what is found of a page.
use Rattle.std.specs.Prelude.{ℕ, ◌==◌, List, ◌++◌, map, find, Option, Some, None, option_map}
use Rattle.wk_wiki_rules.specs.Jobs.{RefreshEntry}
use Rattle.wk_jobs.specs.declared.refreshes.ClaimedJob.{ClaimedJob}
use Rattle.wk_jobs.specs.declared.refreshes.QueuedJob.{QueuedJob}

abbrev pub claimed_entry : ClaimedJob → RefreshEntry
claimed_entry job = record { number = job.number; page = job.page; ticket = Some job.ticket }

abbrev pub queued_entry : QueuedJob → RefreshEntry
queued_entry job = record { number = job.number; page = job.page; ticket = None }

-- the claimed jobs stand before the queued ones
abbrev pub entries : List ClaimedJob → List QueuedJob → List RefreshEntry
entries claimed queued = map claimed_entry claimed ++ map queued_entry queued

-- the page's refresh job
abbrev pub job_of : List RefreshEntry → ℕ → Option RefreshEntry
job_of jobs page = find (λ job. job.page == page) jobs

-- the number of the page's refresh job
abbrev pub number_of : List RefreshEntry → ℕ → Option ℕ
number_of jobs page = option_map (λ job. job.number) (job_of jobs page)
