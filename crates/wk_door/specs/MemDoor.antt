-- What a door in memory tells of itself (own).
use Rattle.std.specs.Prelude.{ℕ}
use Rattle.wk_base.specs.Calls.{CallsMade}
use Rattle.wk_door.specs.Told.{DoorTold}

-- what it tells as a door, the greatest length of an address, and its calls
pub record MemDoorTold (L : Type 0) : Type 0 where
  pub told : DoorTold L
  pub most : ℕ
  pub calls : CallsMade
