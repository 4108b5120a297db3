-- Which pages a job covers, so that their link rows may wait for it (own).
use Rattle.std.specs.Prelude.{ℕ, Bool, ◌&&◌, ◌||◌, nat_lt}
use Rattle.std.specs.List.{list_any}
use Rattle.wk_page_rules.specs.PageRows.{PageRows, names}
use Rattle.wk_wiki_rules.specs.Jobs.{FanEntry, JobLists, has_refresh}

-- a fan job covers the pages above its cursor whose link rows name its title under its reach
abbrev pub fan_covers : ℕ → PageRows → FanEntry → Bool
fan_covers page rows fan = nat_lt fan.cursor page && names rows fan.title fan.reach

-- the page with this number and these link rows has a refresh job, queued or claimed, or a fan job covers it
abbrev pub is_covered : JobLists → ℕ → PageRows → Bool
is_covered lists page rows = has_refresh lists page || list_any (fan_covers page rows) lists.fans
