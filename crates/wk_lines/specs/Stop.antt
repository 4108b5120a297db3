-- Why a program stopped before the end of its input (own).
use Rattle.std.specs.Prelude.{ℕ}
use Rattle.wk_lines.specs.declared.stop.Stop.{Stop}
use Rattle.wk_lines.specs.declared.stop.Stop.TheVariants.{Memory, ReadFault, WriteFault, Bound}

-- the reading stopped it: memory ran out, a read failed, or too much was read
abbrev pub IsReading : Stop → Type 0
IsReading Memory = Unit {0}
IsReading ReadFault = Unit {0}
IsReading WriteFault = ⊥
IsReading Bound = Unit {0}

-- the writing stopped it: memory ran out, or a write failed
abbrev pub IsWriting : Stop → Type 0
IsWriting Memory = Unit {0}
IsWriting ReadFault = ⊥
IsWriting WriteFault = Unit {0}
IsWriting Bound = ⊥

-- the status with which the program ends
abbrev pub status_of : Stop → ℕ
status_of Memory = 1
status_of ReadFault = 3
status_of WriteFault = 4
status_of Bound = 9
