-- What is held of the fan jobs.
use Rattle.std.specs.Prelude.{◌+◌, ◌≤◌, List, map, find, Option, vec_len, vec_capacity}
use Rattle.std.specs.List.{IsDistinct}
use Rattle.wk_text_rules.specs.Titles.{PageTitle, title_eq}
use Rattle.wk_wiki_rules.specs.Jobs.{FanEntry}
use Rattle.wk_jobs.specs.HeldFans.{HeldFans}
use Rattle.wk_jobs.specs.declared.fans.Fans.TheInside.{Inside}

-- the title's fan job
abbrev pub fan_of : List FanEntry → PageTitle → Option FanEntry
fan_of jobs title = find (λ job. title_eq job.title title) jobs

abbrev pub held_fans : Inside → HeldFans
held_fans f = record { jobs = f.jobs.items; spare = f.spare }

-- a title has one job, and there is room for as many jobs more as are spare
pub record KeepsFans (f : Inside) : Type 0 where
  pub one : IsDistinct title_eq (map (λ (job : FanEntry). job.title) f.jobs.items)
  pub room : f.spare + vec_len f.jobs ≤ vec_capacity f.jobs
