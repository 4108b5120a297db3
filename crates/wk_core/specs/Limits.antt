-- The full limits.
use Rattle.std.specs.Prelude.{◌≤◌}
use Rattle.wk_page_rules.specs.Verdict.{MostHeld, full_limits}

-- no limit is above the full one
pub record AreWithinFull (most : MostHeld) : Type 0 where
  pub pages : most.pages ≤ full_limits.pages
  pub revisions : most.revisions ≤ full_limits.revisions
  pub text : most.text ≤ full_limits.text
  pub journal : most.journal ≤ full_limits.journal
