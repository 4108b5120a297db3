-- Known answers that were given.
use Rattle.std.specs.Prelude.{◌≡◌, ℕ, ◌+◌, length}
use Rattle.wk_view_rules.specs.Worlds.{Agrees, Seen, of_seen}

-- Each of the answers is known, and so many were given since so many were.
pub record AreGiven (known : Seen) (begun given : ℕ) (seen : Seen) : Type 0 where
  pub are_known : Agrees (of_seen known) seen
  pub count : given ≡ begun + length seen
