-- Calls of a shared wiki, as the pass of the caller tells them (own). A point is the length of a journal.
use Rattle.std.specs.Prelude.{◌≡◌, ◌≢◌, ℕ, ◌+◌, ◌-◌, ◌≤◌, ◌^◌, [], ◌∷◌, ◌++◌, length, slice_get, Option, Some, None, IfSome}
use mathlib.Core.List.{IsPrefix}
use Rattle.wk_wiki_rules.specs.States.{State}
use Rattle.wk_wiki_rules.specs.Events.{Event}
use Rattle.wk_wiki_rules.specs.Claims.{ClaimOutcome}
use Rattle.wk_wiki_rules.specs.Entries.{closes}
use Rattle.wk_wiki_rules.specs.Passes.{PassSeen, state_seen}
use Rattle.wk_wiki_rules.specs.Starts.{Start}
use Rattle.wk_life_laws.specs.Runs.{IsRun}
use Rattle.wk_expand.specs.Drafts.{DraftShown}
use Rattle.wk_core.specs.Tickets.{IsDraftFor, IsOut}
use Rattle.wk_turn.specs.Journal.{IsOpen}
use Rattle.wk_turn.specs.Told.{Begun, IsOf, Story}

-- ---- what a pass has seen

-- what a pass has seen of a wiki that began so
abbrev pub seen_by : Start → Story Start Event → PassSeen
seen_by start pass = record { start = start; journal = pass.seen; own = pass.own }

-- the state at a point that the pass has seen
abbrev pub state_by : Start → Story Start Event → ℕ → Option State
state_by start pass point = state_seen (seen_by start pass) point

-- The pass is of what is shared here, and hasn't taken it. A wiki and a replica are shared so.
pub record IsFree {S E : Type 0} (shared : Begun S) (pass : Story S E) : Type 0 where
  pub turn : IsOf shared pass
  pub free : pass.held ≡ None

-- ---- tickets and drafts

-- The pass holds the ticket: it made the claim, no event closes that, and so the ticket is out in the state that the pass
-- has seen last.
pub record HoldsTicket (start : Start) (pass : Story Start Event) (ticket : ClaimOutcome) : Type 0 where
  pub claim : IsOpen closes pass.seen pass.own (ticket.ticket - 1)
  pub state : State
  pub seen : state_by start pass (length pass.seen) ≡ Some state
  pub out : IsOut state ticket

-- the draft is fit for the ticket in the state that the pass has seen last
pub record HoldsDraft (start : Start) (pass : Story Start Event) (ticket : ClaimOutcome) (draft : DraftShown) : Type 0 where
  pub state : State
  pub seen : state_by start pass (length pass.seen) ≡ Some state
  pub fit : IsDraftFor state ticket draft

-- ---- calls

-- The pass behind a call that told this point: it is free, it has seen more of the journal or as much, up to the point,
-- and what it has seen is a run of the wiki.
pub record HasSeen (shared : Begun Start) (old new : Story Start Event) (point : ℕ) : Type 0 where
  pub turn : IsOf shared new
  pub free : new.held ≡ None
  pub tells : point ≡ length new.seen
  pub seen : IsPrefix old.seen new.seen
  pub state : State
  pub run : IsRun shared.start new.seen state

-- What a call adds that was made at this point: no entry, or this event as the journal's next entry, which is the pass's
-- own.
abbrev pub AddsOwn : Story Start Event → Story Start Event → ℕ → Option Event → Type 0
AddsOwn old new at None = (length new.seen ≡ at) × (new.own ≡ old.own)
AddsOwn old new at (Some event) = (length new.seen ≡ at + 1) × (slice_get new.seen at ≡ Some event) × (new.own ≡ old.own ++ at ∷ [])

-- the place of the ticket's claim isn't closed by the event, if there is one
abbrev pub LeavesOut : ClaimOutcome → Option Event → Type 0
LeavesOut ticket event = IfSome event (λ e. closes e ≢ Some (ticket.ticket - 1))

-- A call under the turn, by what its answer tells of a wiki that began so, of the state in which the call was made, of the
-- length of the journal then, and of the event that it made.
pub record IsMadeAt (start : Start) (old new : Story Start Event) (Call : Start → State → ℕ → Option Event → Type 0) : Type 0 where
  -- the point at which it was made: no older than what the pass had seen
  pub at : ℕ
  pub later : length old.seen ≤ at
  -- the state there
  pub state : State
  pub stands : state_by start new at ≡ Some state
  -- the event that it made, if any
  pub event : Option Event
  pub adds : AddsOwn old new at event
  pub call : Call start state at event
  -- each ticket that the pass held, and that the event doesn't bring in, it holds still
  pub tickets : (ticket : ClaimOutcome) → HoldsTicket start old ticket → LeavesOut ticket event → HoldsTicket start new ticket

-- A fault may come of the store of a wiki that began so: its keeper isn't whole, or it is, and its count of faults stands at
-- its end all the same.
abbrev pub MayFail : Start → Type 0
MayFail start = IfSome start.failed (λ n. 2 ^ 64 - 1 ≤ n)
