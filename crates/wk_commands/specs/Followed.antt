-- What the command `replica` does (own).
use Rattle.std.specs.Prelude.{◌≡◌, ◌⊎◌, ℕ, true, List, Option, None, Some, Result, Ok, Err}
use Rattle.std.specs.Io.KnownBytes.{Appends, IsAtEnd}
use Rattle.wk_base.specs.Faults.{Rose}
use Rattle.wk_base.specs.Writing.{AppendsPrefix}
use Rattle.wk_replica_serving.specs.Feeds.{EndsEarly, HasBadLine, HasReadMuch, TellsEvents}
use Rattle.wk_replica_serving.specs.declared.ends.FeedEnd.{FeedEnd}
use Rattle.wk_replica_serving.specs.declared.ends.FeedEnd.TheVariants as feed
use Rattle.wk_door.specs.Entrances.{is_emptied}
use Rattle.wk_door.specs.Told.{DoorTold, counts_of}
use Rattle.wk_door.specs.declared.entrance.Shut.{Shut}
use Rattle.wk_door.specs.declared.entrance.Shut.TheVariants.{Broken, Empty}
use Rattle.wk_door.specs.declared.entrance.Taken.{Taken}
use Rattle.wk_commands.specs.Served.{HasGiven}
use Rattle.wk_commands.specs.Texts.{replica_line}
use Rattle.wk_commands.specs.declared.replicas.ReplicaEnd.{ReplicaEnd}
use Rattle.wk_commands.specs.declared.replicas.ReplicaEnd.TheVariants.{BadFeed, Bound, Done, DoorFault, Memory, ReadFault, WriteFault}

-- ---- the last line

-- how the command ends with a text: it is written whole, or a write fails, or memory is wanting for it
abbrev pub EndsAsText : List ℕ → ReplicaEnd → Option (List ℕ) → Option (List ℕ) → Type 0
EndsAsText text Done before after = Appends before after text
EndsAsText text WriteFault before after = AppendsPrefix before after text
EndsAsText text Memory before after = after ≡ before
EndsAsText text (BadFeed number) before after = ⊥
EndsAsText text ReadFault before after = ⊥
EndsAsText text DoorFault before after = ⊥
EndsAsText text Bound before after = ⊥

-- how it ends where the feed is at its end, and the door is shut for this cause, or isn't
abbrev pub EndsShut : Option Shut → ℕ → ReplicaEnd → Option (List ℕ) → Option (List ℕ) → Type 0
EndsShut None events ended before after = EndsAsText (replica_line events) ended before after
EndsShut (Some Empty) events ended before after = EndsAsText (replica_line events) ended before after
EndsShut (Some Broken) events ended before after = (ended ≡ DoorFault) × (after ≡ before)

-- where this was taken of the door
abbrev pub EndsServed : {E : Type 0} → Result Taken E → ℕ → ReplicaEnd → Option (List ℕ) → Option (List ℕ) → Type 0
EndsServed (Ok taken) events ended before after = EndsShut taken.shut events ended before after
EndsServed (Err memory) events ended before after = (ended ≡ Memory) × (after ≡ before)

-- how a command ends whose feed ends so, before its own end
abbrev pub end_of_feed : FeedEnd → ReplicaEnd
end_of_feed feed.Ended = Done
end_of_feed (feed.Bad number) = BadFeed number
end_of_feed feed.ReadFault = ReadFault
end_of_feed feed.Bound = Bound
end_of_feed feed.Memory = Memory

-- how it ends where the feed ended so, behind so many events, and this was taken of the door: how the feed ended counts first
abbrev pub EndsFollowing : {E : Type 0} → FeedEnd → Result Taken E → ℕ → ReplicaEnd → Option (List ℕ) → Option (List ℕ) → Type 0
EndsFollowing feed.Ended taken events ended before after = EndsServed taken events ended before after
EndsFollowing (feed.Bad number) taken events ended before after = (ended ≡ BadFeed number) × (after ≡ before)
EndsFollowing feed.ReadFault taken events ended before after = (ended ≡ ReadFault) × (after ≡ before)
EndsFollowing feed.Bound taken events ended before after = (ended ≡ Bound) × (after ≡ before)
EndsFollowing feed.Memory taken events ended before after = (ended ≡ Memory) × (after ≡ before)

-- ---- the command

-- a line of what was read is bad, the one with this number; or the input is at its end before the start, and the line with this number isn't there
abbrev pub HasBadFeed : Option (List ℕ) → Option (List ℕ) → ℕ → Type 0
HasBadFeed rest left number = HasBadLine rest left number ⊎ EndsEarly rest left number

-- How the command ended, of a door that told this and had so many faults, at this address and for at most so many links, and of an input
-- of which this was to be read and this is left. Where it is done the input was read to its end, no line of it is bad, as many links were
-- given or none is left, and one line was written, which tells how many events the lines tell. It ends so for its cause alone. At any
-- other end no more than a prefix of such a line was written.
pub data HasFollowed {L : Type 0} (address : List ℕ) (most : ℕ) (told later : Option (DoorTold L)) (faults faults_later : ℕ) (rest left before after : Option (List ℕ)) : ReplicaEnd → Type 0 where
  followed : (events count : ℕ) → HasGiven address most told later count → (count ≡ most) ⊎ (is_emptied (counts_of later) ≡ true) → faults_later ≡ faults →
      IsAtEnd left → TellsEvents rest left events → Appends before after (replica_line events) →
      HasFollowed address most told later faults faults_later rest left before after Done
  bad_feed : (number : ℕ) → HasBadFeed rest left number → after ≡ before → HasFollowed address most told later faults faults_later rest left before after (BadFeed number)
  unread : after ≡ before → HasFollowed address most told later faults faults_later rest left before after ReadFault
  unwritten : (events : ℕ) → IsAtEnd left → TellsEvents rest left events → AppendsPrefix before after (replica_line events) →
      HasFollowed address most told later faults faults_later rest left before after WriteFault
  broken : Rose faults faults_later → after ≡ before → HasFollowed address most told later faults faults_later rest left before after DoorFault
  too_long : HasReadMuch rest left → after ≡ before → HasFollowed address most told later faults faults_later rest left before after Bound
  no_memory : after ≡ before → HasFollowed address most told later faults faults_later rest left before after Memory
