-- What the command `serve` does (own).
use Rattle.std.specs.Prelude.{◌≡◌, ◌≢◌, ◌⊎◌, ℕ, ◌≤◌, true, List, Option, None, Some, Result, Ok, Err}
use Rattle.std.specs.Io.KnownBytes.{Appends}
use mathlib.Core.List.{IsPrefix}
use Rattle.wk_base.specs.Faults.{Rose}
use Rattle.wk_base.specs.Writing.{AppendsPrefix}
use Rattle.wk_wiki_rules.specs.Lives.{replay}
use Rattle.wk_wiki_rules.specs.Soundness.{IsSound}
use Rattle.wk_core.specs.Seen.{WikiSeen}
use Rattle.wk_door.specs.Entrances.{after_giving, is_emptied}
use Rattle.wk_door.specs.Told.{DoorTold, counts_of, listening}
use Rattle.wk_door.specs.declared.entrance.Shut.{Shut}
use Rattle.wk_door.specs.declared.entrance.Shut.TheVariants.{Broken, Empty}
use Rattle.wk_door.specs.declared.entrance.Taken.{Taken}
use Rattle.wk_commands.specs.Lived.{HasLivedOn}
use Rattle.wk_commands.specs.Texts.{listening_line, serve_text, served_line}
use Rattle.wk_commands.specs.declared.ends.CommandEnd.{CommandEnd}
use Rattle.wk_commands.specs.declared.ends.CommandEnd.TheVariants.{Done, Differs, DoorFault, Full, Memory, StoreFault, WriteFault}

-- how a command ends with a line: it is written whole, or a write fails, or memory is wanting for it
abbrev pub EndsAsLine : List ℕ → CommandEnd → Option (List ℕ) → Option (List ℕ) → Type 0
EndsAsLine line Done before after = Appends before after line
EndsAsLine line WriteFault before after = AppendsPrefix before after line
EndsAsLine line Memory before after = after ≡ before
EndsAsLine line Differs before after = ⊥
EndsAsLine line Full before after = ⊥
EndsAsLine line StoreFault before after = ⊥
EndsAsLine line DoorFault before after = ⊥

-- a line is written, or the command ends so without it
abbrev pub WritesLine : List ℕ → Result (Unit {0}) CommandEnd → Option (List ℕ) → Option (List ℕ) → Type 0
WritesLine line (Ok done) before after = Appends before after line
WritesLine line (Err end) before after = (end ≢ Done) × EndsAsLine line end before after

-- the door listens at the address, and that was written
pub record HasBegun {L : Type 0} (address : List ℕ) (told later : Option (DoorTold L)) (faults faults_later : ℕ) (before after : Option (List ℕ)) : Type 0 where
  pub listens : later ≡ listening told address
  pub no_fault : faults_later ≡ faults
  pub written : Appends before after (listening_line address)

-- how serving ends where so many links were taken and the door is shut for this cause, or isn't, and what it writes then
abbrev pub EndsTaken : Option Shut → ℕ → CommandEnd → Option (List ℕ) → Option (List ℕ) → Type 0
EndsTaken None count ended before after = EndsAsLine (served_line count) ended before after
EndsTaken (Some Empty) count ended before after = EndsAsLine (served_line count) ended before after
EndsTaken (Some Broken) count ended before after = (ended ≡ DoorFault) × (after ≡ before)

abbrev pub EndsServing : {E : Type 0} → Result Taken E → CommandEnd → Option (List ℕ) → Option (List ℕ) → Type 0
EndsServing (Ok taken) ended before after = EndsTaken taken.shut taken.count ended before after
EndsServing (Err memory) ended before after = (ended ≡ Memory) × (after ≡ before)

-- the door listens at the address, and has given so many links since, of at most so many
pub record HasGiven {L : Type 0} (address : List ℕ) (most : ℕ) (told later : Option (DoorTold L)) (count : ℕ) : Type 0 where
  pub within : count ≤ most
  pub counts : counts_of later ≡ after_giving (counts_of (listening told address)) count

-- the door has given at most so many links at the address, or doesn't listen there and is as it was
pub data GivesAtMost {L : Type 0} (address : List ℕ) (most : ℕ) (told later : Option (DoorTold L)) : Type 0 where
  gave : (count : ℕ) → HasGiven address most told later count → GivesAtMost address most told later
  not_listening : later ≡ told → GivesAtMost address most told later

-- What serving has written that didn't come to its end: a prefix of its first line, before any link was given; or that line, and, behind so
-- many links, a prefix of the line that tells how many they are.
pub data HasWrittenPart {L : Type 0} (address : List ℕ) (most : ℕ) (told later : Option (DoorTold L)) (before after : Option (List ℕ)) : Type 0 where
  before_links : (later ≡ told) ⊎ (later ≡ listening told address) → AppendsPrefix before after (listening_line address) → HasWrittenPart address most told later before after
  behind_links : (count : ℕ) (between : Option (List ℕ)) → HasGiven address most told later count → Appends before between (listening_line address) → AppendsPrefix between after (served_line count) →
      HasWrittenPart address most told later before after

-- How serving ended, of a door that told this and had so many faults, at this address and for at most so many links. Both lines were
-- written where as many links were given or none is left; else a part of them. It ends so only where a call of the door failed, or a
-- write, or for want of memory.
pub data HasServedAt {L : Type 0} (address : List ℕ) (most : ℕ) (told later : Option (DoorTold L)) (faults faults_later : ℕ) (before after : Option (List ℕ)) : CommandEnd → Type 0 where
  served : (count : ℕ) → HasGiven address most told later count → (count ≡ most) ⊎ (is_emptied (counts_of later) ≡ true) → faults_later ≡ faults →
      Appends before after (serve_text address count) → HasServedAt address most told later faults faults_later before after Done
  broken : Rose faults faults_later → HasWrittenPart address most told later before after → HasServedAt address most told later faults faults_later before after DoorFault
  unwritten : HasWrittenPart address most told later before after → HasServedAt address most told later faults faults_later before after WriteFault
  no_memory : HasWrittenPart address most told later before after → HasServedAt address most told later faults faults_later before after Memory

-- What serving leaves of a wiki that was just opened: it began as it did, its state is given by a life from the first one, and begins
-- with its revisions.
pub record IsServedFrom {K : Type 0} (old new : WikiSeen K) : Type 0 where
  pub start : new.start ≡ old.start
  pub lived : HasLivedOn old.state new.state
  -- by the events of its journal alone
  pub replayed : replay old.state new.journal ≡ Some new.state
  pub revisions : IsPrefix old.state.history.revisions new.state.history.revisions
  pub sound : IsSound old.state → IsSound new.state
