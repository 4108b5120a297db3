-- The parts of a wiki that the changes of its tables are made from.
use Rattle.std.specs.Prelude.{ℕ, ◌==◌, ◌||◌, Bool, List, Option, length, is_some}
use Rattle.wk_text_rules.specs.Titles.{PageTitle}
use Rattle.wk_page_rules.specs.History.{page_exists}
use Rattle.wk_page_rules.specs.PageRows.{PageRows}
use Rattle.wk_wiki_rules.specs.Jobs.{FanEntry, has_fan}
use Rattle.wk_wiki_rules.specs.Steps.{cursor_behind, next_served, reach_of_save}
use Rattle.wk_wiki_rules.specs.Users.{some_page_names, users}
use Rattle.wk_wiki_rules.specs.States.{State}
use Rattle.wk_revs.specs.Revs.{Stored}
use Rattle.wk_jobs.specs.HeldJobs.{HeldJobs}
use Rattle.wk_index.specs.Held.{Held}

-- the state that the revisions and pages, the jobs and the stored link rows make
abbrev pub parts : Stored → HeldJobs → Held → State
parts revs jobs index = record { history = revs.history; stored = index.stored; jobs = jobs.lists }

-- A save sets or adds a fan job: the title has one, or some page's link rows name it. A page that is new has none.
abbrev pub is_fan_wanted : State → PageTitle → Option (List ℕ) → Bool
is_fan_wanted state title text =
    has_fan state.jobs title || some_page_names state.stored title (reach_of_save (page_exists state.history title) (is_some text))

-- the fan job goes once its next pages are served: no page above the last of them names its title
abbrev pub are_last : List PageRows → ℕ → FanEntry → Bool
are_last stored most fan =
    length (users stored fan.title fan.reach (cursor_behind (next_served stored most fan) fan.cursor) 1) == 0
