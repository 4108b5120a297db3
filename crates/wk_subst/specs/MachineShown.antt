-- Machines, as contracts see them.
use Rattle.std.specs.Prelude.{ℕ, List}
use Rattle.wk_view_rules.specs.Worlds.{Seen}

-- the text that is saved, and what was read so far
pub record MachineShown : Type 0 where
  pub saved : List ℕ
  pub reads : Seen
