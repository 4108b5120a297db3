-- The counters of an expansion within its limits.
use Rattle.std.specs.Prelude.{◌≤◌}
use Rattle.wk_view_rules.specs.Expansions.{Counters, most_bytes, most_nodes, most_tests}

pub record IsWithinLimits (counters : Counters) : Type 0 where
  pub nodes : counters.nodes ≤ most_nodes
  pub include : counters.include ≤ most_bytes
  pub argument : counters.argument ≤ most_bytes
  pub exists : counters.exists ≤ most_tests
