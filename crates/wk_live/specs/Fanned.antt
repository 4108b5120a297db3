-- What a fan serves next, and the jobs behind it.
use Rattle.std.specs.Prelude.{◌≡◌, ℕ, Bool, ◌==◌, List, length, Option, None, Some, if◌then◌else◌}
use Rattle.std.specs.List.{last_or}
use Rattle.wk_wiki_rules.specs.Jobs.{FanEntry, JobLists, first_fan, fan_dropped, fan_moved}
use Rattle.wk_wiki_rules.specs.Steps.{all_queued, cursor_behind, next_served}
use Rattle.wk_wiki_rules.specs.Users.{users}
use Rattle.wk_wiki_rules.specs.States.{State}

-- these are the pages that the first fan job serves next, at most so many, and behind the last of them no page names its
-- title exactly where they are the last
abbrev pub IsNextServed : State → ℕ → List ℕ → Bool → Type 0
IsNextServed state most served is_last = (fan : FanEntry) → first_fan state.jobs ≡ Some fan
    → (served ≡ next_served state.stored most fan)
    × (is_last ≡ (length (users state.stored fan.title fan.reach (cursor_behind served fan.cursor) 1) == 0))

-- the first fan job goes, or has served the pages up to the last of these, where there is one
abbrev pub first_fan_served : JobLists → Option ℕ → Bool → JobLists
first_fan_served lists last is_last =
    if is_last then fan_dropped lists else elim last [ None ↦ lists | Some page ↦ fan_moved lists page ]

-- each of these pages that has no refresh job gets one, and the first fan job has served them
abbrev pub jobs_served : JobLists → List ℕ → Bool → JobLists
jobs_served lists served is_last = first_fan_served (all_queued lists served) (last_or None served) is_last
