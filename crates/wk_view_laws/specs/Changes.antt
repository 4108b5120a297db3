-- Worlds before and after a change.
use Rattle.std.specs.Prelude.{◌≡◌, ◌≢◌}
use Rattle.wk_text_rules.specs.Titles.{PageTitle}
use Rattle.wk_view_rules.specs.Worlds.{World}

-- both worlds have the same page for each title but this one, maybe
abbrev pub DifferOnlyAt : PageTitle → World → World → Type 0
DifferOnlyAt title v w = (other : PageTitle) → other ≢ title → w other ≡ v other
