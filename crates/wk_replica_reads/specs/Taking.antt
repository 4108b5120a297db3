-- Lines of a feed that are taken of a shared replica (own).
use Rattle.std.specs.Prelude.{◌≡◌, ◌⊎◌, ⊤, ℕ, List, ◌++◌, Some, Result, Ok, Err}
use mathlib.Core.List.{IsPrefix}
use Rattle.wk_view_rules.specs.Worlds.{Agrees, of_world}
use Rattle.wk_wiki_rules.specs.Claims.{ClaimOutcome}
use Rattle.wk_wiki_rules.specs.Events.{Event}
use Rattle.wk_wiki_rules.specs.States.{State, world_of}
use Rattle.wk_feed_rules.specs.Lines.{FeedLine}
use Rattle.wk_life_laws.specs.Runs.{IsRun}
use Rattle.wk_expand.specs.Drafts.{DraftShown}
use Rattle.wk_core.specs.Tickets.{ticket_out}
use Rattle.wk_turn.specs.Journal.{added}
use Rattle.wk_turn.specs.Told.{Begun, Story}
use Rattle.wk_replica.specs.Replicas.{ReplicaBegun, ReplicaSeen}
use Rattle.wk_replica.specs.Taken.{IsTaken, IsTakenLine}
use Rattle.wk_replica.specs.declared.refusal.TakeRefusal.{TakeRefusal}
use Rattle.wk_replica.specs.declared.refusal.TakeRefusal.TheVariants.{BadLine, Memory}
use Rattle.wk_replica_reads.specs.Looks.{HasRead}

-- ---- in the replica

-- The draft is of the page of the ticket, if that is out, and agrees with the present world.
pub record FitsTicket (state : State) (ticket : ℕ) (d : DraftShown) : Type 0 where
  pub page : (out : ClaimOutcome) → ticket_out state ticket ≡ Some out → d.page ≡ out.title
  pub current : Agrees (of_world (world_of state)) d.reads

-- ---- behind the turn

-- This was done under one turn, to a replica that began as the shared one did and whose journal begins with what the pass had seen. The
-- events that it took are the pass's own.
pub record IsDoneIn (shared : Begun ReplicaBegun) (old new : Story ReplicaBegun Event) (Done : ReplicaSeen → ReplicaSeen → Type 0) : Type 0 where
  pub before : ReplicaSeen
  pub after : ReplicaSeen
  pub start : before.start ≡ shared.start
  pub seen : IsPrefix old.seen before.journal
  pub did : Done before after
  pub all : new.seen ≡ after.journal
  pub own : new.own ≡ old.own ++ added before.journal after.journal

-- its journal is one that calls make from its start, and leads to its state
abbrev pub IsRunning : ReplicaSeen → Type 0
IsRunning replica = IsRun replica.start.wiki replica.journal replica.state

-- before a line and behind it, but where memory was wanting
abbrev pub AreRunning : ReplicaSeen → ReplicaSeen → Result (Unit {0}) TakeRefusal → Type 0
AreRunning before after (Ok end) = IsRunning before × IsRunning after
AreRunning before after (Err (BadLine number)) = IsRunning before × IsRunning after
AreRunning before after (Err Memory) = ⊤

-- what a line that has these bytes makes of a replica
abbrev pub DoesLine : ReplicaSeen → List ℕ → ReplicaSeen → Result (Unit {0}) TakeRefusal → Type 0
DoesLine before line after result = IsTakenLine before line after result × AreRunning before after result

-- the same of a line that says this
abbrev pub DoesSaidLine : ReplicaSeen → FeedLine → ReplicaSeen → Result (Unit {0}) TakeRefusal → Type 0
DoesSaidLine before said after result = IsTaken before said after result × AreRunning before after result

-- memory was wanting before anything was done
abbrev pub IsWanting : Begun ReplicaBegun → Story ReplicaBegun Event → Story ReplicaBegun Event → Result (Unit {0}) TakeRefusal → Type 0
IsWanting shared old new result = HasRead shared old new × (result ≡ Err Memory)

-- what comes of a line that has these bytes
abbrev pub TakesLine : Begun ReplicaBegun → Story ReplicaBegun Event → Story ReplicaBegun Event → List ℕ → Result (Unit {0}) TakeRefusal → Type 0
TakesLine shared old new line result = IsDoneIn shared old new (λ before after. DoesLine before line after result) ⊎ IsWanting shared old new result

-- what comes of a line that says this
abbrev pub TakesSaidLine : Begun ReplicaBegun → Story ReplicaBegun Event → Story ReplicaBegun Event → FeedLine → Result (Unit {0}) TakeRefusal → Type 0
TakesSaidLine shared old new said result = IsDoneIn shared old new (λ before after. DoesSaidLine before said after result) ⊎ IsWanting shared old new result
