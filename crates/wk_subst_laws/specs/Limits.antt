-- How far a substitution has come, within its limits.
use Rattle.std.specs.Prelude.{◌≤◌}
use Rattle.wk_view_rules.specs.Expansions.{Progress, most_bytes, most_nodes}

pub record IsWithinBudget (progress : Progress) : Type 0 where
  pub nodes : progress.counters.nodes ≤ most_nodes
  pub include : progress.counters.include ≤ most_bytes
