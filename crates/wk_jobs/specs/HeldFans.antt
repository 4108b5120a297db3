-- The fan jobs as contracts see them.
use Rattle.std.specs.Prelude.{ℕ, List}
use Rattle.wk_wiki_rules.specs.Jobs.{FanEntry}

pub record HeldFans : Type 0 where
  -- in their order
  pub jobs : List FanEntry
  -- for how many more there is room
  pub spare : ℕ
