-- The job lists, and for how many jobs more there is room.
use Rattle.std.specs.Prelude.{ℕ}
use Rattle.wk_wiki_rules.specs.Jobs.{JobLists}

pub record HeldJobs : Type 0 where
  pub lists : JobLists
  -- for how many refresh jobs more there is room
  pub refresh_room : ℕ
  -- for how many fan jobs more there is room
  pub fan_room : ℕ
