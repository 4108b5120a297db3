-- Whether a save sets a fan job or adds one.
use Rattle.std.specs.Prelude.{ℕ, Bool, ◌||◌, List, Option, Some, None, is_some, if◌then◌else◌}
use Rattle.wk_text_rules.specs.Titles.{PageTitle}
use Rattle.wk_page_rules.specs.History.{page_exists}
use Rattle.wk_page_rules.specs.declared.Reach.{Reach}
use Rattle.wk_wiki_rules.specs.Jobs.{JobLists, has_fan, fan_set, refresh_queued}
use Rattle.wk_wiki_rules.specs.Steps.{reach_of_save}
use Rattle.wk_wiki_rules.specs.Users.{some_page_names}
use Rattle.wk_wiki_rules.specs.States.{State}

-- a fan job of the title stands, or some page's stored rows name it
abbrev pub wants_fan : State → PageTitle → Reach → Bool
wants_fan state title reach = has_fan state.jobs title || some_page_names state.stored title reach

-- the title of the fan job that a save of this text sets or adds; nothing where it does neither
abbrev pub fan_of_save : State → PageTitle → Option (List ℕ) → Option PageTitle
fan_of_save state title text =
    if wants_fan state title (reach_of_save (page_exists state.history title) (is_some text)) then Some title else None

-- the jobs where this page gets a refresh job, and then the title, where there is one, its fan job
abbrev pub queued_with : JobLists → ℕ → Reach → Option PageTitle → JobLists
queued_with lists page reach None = refresh_queued lists page
queued_with lists page reach (Some title) = fan_set (refresh_queued lists page) title reach
