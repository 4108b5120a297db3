-- What the command `serve` does with its feed (own).
use Rattle.std.specs.Prelude.{◌≡◌, ◌⊎◌, ⊤, ℕ, Bool, true, false, List, Option, None, Some, Result, Ok, Err}
use Rattle.std.specs.Io.KnownBytes.{Appends}
use Rattle.wk_base.specs.Faults.{Rose}
use Rattle.wk_wiki_rules.specs.Events.{Event}
use Rattle.wk_wiki_rules.specs.States.{State}
use Rattle.wk_feed_rules.specs.Feeds.{feed_of, start_lines}
use Rattle.wk_feed_rules.specs.Lines.{bytes_of_lines}
use Rattle.wk_feeder.specs.Bytes.{feed_bytes}
use Rattle.wk_feeder.specs.declared.start.FeedRefusal.{FeedRefusal}
use Rattle.wk_feeder.specs.declared.start.FeedRefusal.TheVariants as refusal
use Rattle.wk_door.specs.Entrances.{is_emptied}
use Rattle.wk_door.specs.Told.{DoorTold, counts_of, listening}
use Rattle.wk_door.specs.declared.entrance.Shut.{Shut}
use Rattle.wk_door.specs.declared.entrance.Shut.TheVariants.{Broken, Empty}
use Rattle.wk_door.specs.declared.entrance.Taken.{Taken}
use Rattle.wk_commands.specs.Served.{HasGiven, HasServedAt}
use Rattle.wk_commands.specs.declared.ends.CommandEnd.{CommandEnd}
use Rattle.wk_commands.specs.declared.ends.CommandEnd.TheVariants.{Done, Differs, DoorFault, Full, Memory, StoreFault, WriteFault}

-- the door listens at the address, and the lines of this start were written
pub record HasBegunFed {L : Type 0} (address : List ℕ) (from : State) (told later : Option (DoorTold L)) (faults faults_later : ℕ) (before after : Option (List ℕ)) : Type 0 where
  pub listens : later ≡ listening told address
  pub no_fault : faults_later ≡ faults
  pub written : Appends before after (feed_bytes (start_lines from))

-- the first lines weren't written whole
abbrev pub IsUnfed : CommandEnd → Type 0
IsUnfed WriteFault = ⊤
IsUnfed Memory = ⊤
IsUnfed Done = ⊥
IsUnfed DoorFault = ⊥
IsUnfed Differs = ⊥
IsUnfed Full = ⊥
IsUnfed StoreFault = ⊥

-- how a command ends where the door is shut for this cause, or isn't
abbrev pub end_of_shut : Option Shut → CommandEnd
end_of_shut None = Done
end_of_shut (Some Empty) = Done
end_of_shut (Some Broken) = DoorFault

-- how it ends where this was sent, and this taken of the door: what wasn't sent counts first
abbrev pub end_of_feeding : {N E : Type 0} → Result N FeedRefusal → Result Taken E → CommandEnd
end_of_feeding (Err refusal.WriteFault) taken = WriteFault
end_of_feeding (Err refusal.Memory) taken = Memory
end_of_feeding (Ok n) (Err memory) = Memory
end_of_feeding (Ok n) (Ok taken) = end_of_shut taken.shut

-- How serving ended, as `HasServedAt` tells of one without a feed, from this state on, where these events were made. The feed of both was
-- written where as many links were given or none is left; where a call of the door failed all of it was, or nothing, and the door is as it
-- was.
pub data HasFedAt {L : Type 0} (address : List ℕ) (most : ℕ) (told later : Option (DoorTold L)) (faults faults_later : ℕ) (before after : Option (List ℕ)) (from : State) (events : List Event) : CommandEnd → Type 0 where
  fed : (count : ℕ) → HasGiven address most told later count → (count ≡ most) ⊎ (is_emptied (counts_of later) ≡ true) → faults_later ≡ faults →
      Appends before after (bytes_of_lines (feed_of from events)) → HasFedAt address most told later faults faults_later before after from events Done
  broken : Rose faults faults_later → ((later ≡ told) × (after ≡ before)) ⊎ Appends before after (bytes_of_lines (feed_of from events)) →
      HasFedAt address most told later faults faults_later before after from events DoorFault
  unwritten : HasFedAt address most told later faults faults_later before after from events WriteFault
  no_memory : HasFedAt address most told later faults faults_later before after from events Memory

-- The same of a server with its lines, or with its feed.
pub data HasServedSo {L : Type 0} (feed : Bool) (address : List ℕ) (most : ℕ) (told later : Option (DoorTold L)) (faults faults_later : ℕ) (before after : Option (List ℕ)) (from : State) (events : List Event) (end : CommandEnd) : Type 0 where
  with_lines : feed ≡ false → HasServedAt address most told later faults faults_later before after end → HasServedSo feed address most told later faults faults_later before after from events end
  with_feed : feed ≡ true → HasFedAt address most told later faults faults_later before after from events end → HasServedSo feed address most told later faults faults_later before after from events end
