-- What a feeder has sent (own).
use Rattle.std.specs.Prelude.{ℕ}
use Rattle.wk_turn.specs.Told.{Story}

-- its pass, and how many of the events that it has seen were sent
pub record FeederSeen (A E : Type 0) : Type 0 where
  pub pass : Story A E
  pub sent : ℕ
