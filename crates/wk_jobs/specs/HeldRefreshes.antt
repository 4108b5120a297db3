-- The refresh jobs as contracts see them.
use Rattle.std.specs.Prelude.{ℕ, List}
use Rattle.wk_wiki_rules.specs.Jobs.{RefreshEntry}

pub record HeldRefreshes : Type 0 where
  -- in their order
  pub jobs : List RefreshEntry
  -- for how many more there is room
  pub spare : ℕ
