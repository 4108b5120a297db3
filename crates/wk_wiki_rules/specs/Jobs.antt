-- The refresh jobs and the fan jobs of a wiki, and what each call does to them (MediaWiki's Manual:Job queue; tickets,
-- fan jobs and the order are own).
use Rattle.std.specs.Prelude.{ℕ, ◌+◌, ◌<◌, ◌≤◌, nat_eq, All, Bool, false, ◌&&◌, ◌==◌, not, List, [], ◌∷◌, ◌++◌, length, map, filter, find, drop, count_by, slice_get, Option, Some, None, is_none, is_some, option_map, if◌then◌else◌}
use Rattle.std.specs.List.{IsDistinct, list_any}
use Rattle.wk_text_rules.specs.Titles.{PageTitle, title_eq}
use Rattle.wk_page_rules.specs.declared.Reach.{Reach}
use Rattle.wk_page_rules.specs.declared.Reach.TheVariants.{Text, Both}
use Rattle.wk_wiki_rules.specs.declared.Left.{Left}

-- a job that computes the link rows of a page anew
pub record RefreshEntry : Type 0 where
  -- the number of the job
  pub number : ℕ
  -- the number of the page
  pub page : ℕ
  -- the ticket by which the job is claimed, or nothing while it is queued
  pub ticket : Option ℕ

-- a job that queues a refresh of each page whose link rows name a title
pub record FanEntry : Type 0 where
  -- the number of the job
  pub number : ℕ
  pub title : PageTitle
  pub reach : Reach
  -- the number of the last page that was served since the job began, or began anew; 0 where none was
  pub cursor : ℕ

-- the jobs of both kinds, each kind in its order, and the number of the next new job
pub record JobLists : Type 0 where
  pub refreshes : List RefreshEntry
  pub fans : List FanEntry
  pub next : ℕ

-- no job; numbers begin with 1
abbrev pub no_jobs : JobLists
no_jobs = record { refreshes = []; fans = []; next = 1 }

-- ---- what the lists say

abbrev pub is_queued : RefreshEntry → Bool
is_queued job = is_none job.ticket

abbrev pub is_claimed : RefreshEntry → Bool
is_claimed job = is_some job.ticket

-- the page has a refresh job, queued or claimed
abbrev pub has_refresh : JobLists → ℕ → Bool
has_refresh lists page = list_any (λ job. job.page == page) lists.refreshes

-- the page has a refresh job that is claimed
abbrev pub has_claimed : JobLists → ℕ → Bool
has_claimed lists page = list_any (λ job. job.page == page && is_claimed job) lists.refreshes

-- the title has a fan job
abbrev pub has_fan : JobLists → PageTitle → Bool
has_fan lists title = list_any (λ job. title_eq job.title title) lists.fans

-- the page of the first queued job
abbrev pub first_queued : JobLists → Option ℕ
first_queued lists = option_map (λ job. job.page) (find is_queued lists.refreshes)

-- the job is claimed by this ticket
abbrev pub is_held_by : ℕ → RefreshEntry → Bool
is_held_by ticket job = elim job.ticket [ None ↦ false | Some held ↦ held == ticket ]

-- the page of the job that is claimed by this ticket
abbrev pub page_held_by : JobLists → ℕ → Option ℕ
page_held_by lists ticket = option_map (λ job. job.page) (find (is_held_by ticket) lists.refreshes)

abbrev pub first_fan : JobLists → Option FanEntry
first_fan lists = slice_get lists.fans 0

-- how many jobs stand
abbrev pub left : JobLists → Left
left lists = record {
  queued = count_by is_queued lists.refreshes;
  claimed = count_by is_claimed lists.refreshes;
  fans = length lists.fans;
}

-- ---- refresh jobs

-- A page has at most one refresh job: where it has none, one is queued at the end, with the next number.
abbrev pub refresh_queued : JobLists → ℕ → JobLists
refresh_queued lists page =
    if has_refresh lists page then lists
    else record lists {
      refreshes = lists.refreshes ++ record { number = lists.next; page = page; ticket = None } ∷ [];
      next = lists.next + 1;
    }

-- the jobs, of which the first that is queued is claimed by the ticket
abbrev pub first_claimed : List RefreshEntry → ℕ → List RefreshEntry
first_claimed [] ticket = []
first_claimed (job ∷ jobs) ticket =
    let later = first_claimed jobs ticket in
    if is_queued job then record job { ticket = Some ticket } ∷ jobs else job ∷ later

abbrev pub claimed_by : JobLists → ℕ → JobLists
claimed_by lists ticket = record lists { refreshes = first_claimed lists.refreshes ticket }

abbrev pub jobs_of : ℕ → List RefreshEntry → List RefreshEntry
jobs_of page jobs = filter (λ job. job.page == page) jobs

abbrev pub jobs_of_others : ℕ → List RefreshEntry → List RefreshEntry
jobs_of_others page jobs = filter (λ job. not (job.page == page)) jobs

abbrev pub queued_again : RefreshEntry → RefreshEntry
queued_again job = record job { ticket = None }

-- the page's job is queued, and stands last
abbrev pub given_back : JobLists → ℕ → JobLists
given_back lists page = record lists {
  refreshes = jobs_of_others page lists.refreshes ++ map queued_again (jobs_of page lists.refreshes);
}

-- the page's job goes
abbrev pub refresh_dropped : JobLists → ℕ → JobLists
refresh_dropped lists page = record lists { refreshes = jobs_of_others page lists.refreshes }

-- ---- fan jobs

-- the reach that covers both
abbrev pub wider : Reach → Reach → Reach
wider Text reach = reach
wider Both reach = Both

-- a fan job of this title begins anew, with the wider of both reaches
abbrev pub set_anew : PageTitle → Reach → FanEntry → FanEntry
set_anew title reach job =
    if title_eq job.title title then record job { reach = wider job.reach reach; cursor = 0 } else job

-- A title has at most one fan job. One that stands keeps its place, begins anew and has the wider of both reaches;
-- else one is added at the end, with the next number.
abbrev pub fan_set : JobLists → PageTitle → Reach → JobLists
fan_set lists title reach =
    if has_fan lists title then record lists { fans = map (set_anew title reach) lists.fans }
    else record lists {
      fans = lists.fans ++ record { number = lists.next; title = title; reach = reach; cursor = 0 } ∷ [];
      next = lists.next + 1;
    }

abbrev pub with_first_cursor : List FanEntry → ℕ → List FanEntry
with_first_cursor [] cursor = []
with_first_cursor (job ∷ jobs) cursor = record job { cursor = cursor } ∷ jobs

-- the first fan job has served the pages up to the cursor
abbrev pub fan_moved : JobLists → ℕ → JobLists
fan_moved lists cursor = record lists { fans = with_first_cursor lists.fans cursor }

-- the first fan job goes
abbrev pub fan_dropped : JobLists → JobLists
fan_dropped lists = record lists { fans = drop 1 lists.fans }

-- ---- what is true of the lists at all times

-- the pages of the refresh jobs, in the order of the jobs
abbrev pub pages_of : JobLists → List ℕ
pages_of lists = map (λ job. job.page) lists.refreshes

-- the titles of the fan jobs, in the order of the jobs
abbrev pub titles_of : JobLists → List PageTitle
titles_of lists = map (λ job. job.title) lists.fans

-- the numbers of all jobs
abbrev pub numbers_of : JobLists → List ℕ
numbers_of lists = map (λ job. job.number) lists.refreshes ++ map (λ job. job.number) lists.fans

-- a page has at most one refresh job
abbrev pub IsOneAPage : JobLists → Type 0
IsOneAPage lists = IsDistinct nat_eq (pages_of lists)

-- a title has at most one fan job
abbrev pub IsOneATitle : JobLists → Type 0
IsOneATitle lists = IsDistinct title_eq (titles_of lists)

-- every job has a number of its own, from 1 on, and the next number is above them all
pub record IsNumbered (lists : JobLists) : Type 0 where
  pub own : IsDistinct nat_eq (numbers_of lists)
  pub bounded : All (λ number. (1 ≤ number) × (number < lists.next)) (numbers_of lists)
  pub positive : 1 ≤ lists.next
