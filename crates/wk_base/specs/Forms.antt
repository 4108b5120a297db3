-- What the forms in memory tell (own).
use Rattle.std.specs.Prelude.{ℕ, List}
use Rattle.wk_base.specs.Calls.{CallsMade}

-- a source: the bytes that are left, and its reads
pub record BytesLeft : Type 0 where
  pub rest : List ℕ
  pub calls : CallsMade

-- a sink: the bytes that it has taken, how many it takes at most, and its writes
pub record BytesTaken : Type 0 where
  pub taken : List ℕ
  pub most : ℕ
  pub calls : CallsMade
