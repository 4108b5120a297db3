-- How far a connection was read (own).
use Rattle.std.specs.Prelude.{◌≡◌, ◌≢◌, ℕ, ◌+◌, ◌^◌, ◌≤◌, List, [], ◌++◌, length, Option}
use Rattle.std.specs.Io.KnownBytes.{Consumes, IsAtEnd}
use Rattle.wk_wire_rules.specs.Heads.{Message}
use Rattle.wk_wire_rules.specs.Messages.{IsMessage, IsBad, IsOpen}
use Rattle.wk_http.specs.declared.report.SessionEnd.{SessionEnd}
use Rattle.wk_http.specs.declared.report.SessionEnd.TheVariants.{PeerEnd, Cut, Closed, Bad, ReadFault, WriteFault, Bound, Memory}

-- the bytes that were read and belong to no message that was given, and how many bytes were read in all
pub record Reading : Type 0 where
  pub left : List ℕ
  pub total : ℕ

abbrev pub nothing_read : Reading
nothing_read = record { left = []; total = 0 }

-- bytes were read behind those that were left, and no message was given
pub record ReadsOn (old new : Reading) (rest later : Option (List ℕ)) : Type 0 where
  pub read : List ℕ
  pub consumed : Consumes rest later read
  pub counted : new.total ≡ old.total + length read
  pub left : new.left ≡ old.left ++ read

-- bytes were read, and this is the message at the front of all that is left
pub record Gives (old new : Reading) (rest later : Option (List ℕ)) (message : Message) : Type 0 where
  pub read : List ℕ
  pub consumed : Consumes rest later read
  pub counted : new.total ≡ old.total + length read
  pub is : IsMessage (old.left ++ read) message new.left

-- What these bytes hold where no message is given of them, by the end: nothing is left and the input is at its end; or it is
-- so within a message; a bad place; or no whole message and no bad place, where no more can be read.
abbrev pub HoldsNone : List ℕ → Option (List ℕ) → ℕ → SessionEnd → Type 0
HoldsNone bytes later total PeerEnd = (bytes ≡ []) × IsAtEnd later
HoldsNone bytes later total Cut = (bytes ≢ []) × IsOpen bytes × IsAtEnd later
HoldsNone bytes later total Closed = ⊥
HoldsNone bytes later total (Bad status) = IsBad bytes status
HoldsNone bytes later total ReadFault = IsOpen bytes
HoldsNone bytes later total WriteFault = ⊥
HoldsNone bytes later total Bound = IsOpen bytes × (2 ^ 40 ≤ total)
HoldsNone bytes later total Memory = Unit {0}

-- bytes were read, and no message is given of all that is left
pub record StopsAt (old new : Reading) (rest later : Option (List ℕ)) (end : SessionEnd) : Type 0 where
  pub read : List ℕ
  pub consumed : Consumes rest later read
  pub counted : new.total ≡ old.total + length read
  pub holds : HoldsNone (old.left ++ read) later new.total end
