-- A replica that threads share: what a pass has seen of it, and what is read in it under a turn (own). A point is the length of a journal.
use Rattle.std.specs.Prelude.{◌≡◌, ℕ, List, length, Option, Some, None}
use mathlib.Core.List.{IsPrefix}
use Rattle.serde_json.specs.Data.{Data}
use Rattle.wk_text_rules.specs.Titles.{PageTitle}
use Rattle.wk_view_rules.specs.Plans.{done}
use Rattle.wk_view_rules.specs.Worlds.{Answer, Read, answer_in}
use Rattle.wk_view_rules.specs.declared.Kind.{Kind}
use Rattle.wk_wiki_rules.specs.States.{State, world_of}
use Rattle.wk_wiki_rules.specs.Events.{Event}
use Rattle.wk_wiki_rules.specs.Passes.{PassSeen, drafted_in, shown_number}
use Rattle.wk_wiki_rules.specs.Starts.{Start}
use Rattle.wk_life_laws.specs.Runs.{IsRun}
use Rattle.wk_request_rules.specs.Requests.{Request}
use Rattle.wk_expand.specs.Drafts.{DraftShown}
use Rattle.wk_core.specs.declared.outcomes.PageRead.{PageRead}
use Rattle.wk_turn.specs.Told.{Begun, IsOf, Story}
pub use Rattle.wk_shared.specs.Calls.{IsFree}
use Rattle.wk_read_laws.specs.Points.{AreReadSince}
use Rattle.wk_replica.specs.Answers.{replica_reply}
use Rattle.wk_replica.specs.Replicas.{ReplicaBegun, ReplicaSeen}

-- ---- passes

-- what a pass has seen of a shared replica
abbrev pub seen_by : Begun ReplicaBegun → Story ReplicaBegun Event → PassSeen
seen_by shared pass = record { start = shared.start.wiki; journal = pass.seen; own = pass.own }

-- The replica that a pass has taken: it began as the shared one did, and its journal begins with what the pass had seen.
pub record IsHeld (shared : Begun ReplicaBegun) (old new : Story ReplicaBegun Event) (replica : ReplicaSeen) : Type 0 where
  pub pass : new ≡ record old { held = Some replica.journal }
  pub start : replica.start ≡ shared.start
  pub seen : IsPrefix old.seen replica.journal

-- A call that only looks: the pass is free, it has seen more of the journal or as much, and it has made no entry.
pub record HasRead (shared : Begun ReplicaBegun) (old new : Story ReplicaBegun Event) : Type 0 where
  pub turn : IsOf shared new
  pub free : new.held ≡ None
  pub seen : IsPrefix old.seen new.seen
  pub own : new.own ≡ old.own

-- each of the answers is that of the world at a point from the one on that the pass had seen
abbrev pub AreAnsweredSince : Begun ReplicaBegun → Story ReplicaBegun Event → Story ReplicaBegun Event → List Read → Type 0
AreAnsweredSince shared old new answers = AreReadSince shared.start.wiki new.seen (length old.seen) answers

-- The draft is of this page, or of this text, and each of its reads was answered at a point from the one on that the pass had seen.
pub record IsDraftSince (shared : Begun ReplicaBegun) (old new : Story ReplicaBegun Event) (page : PageTitle) (given : Option (List ℕ)) (d : DraftShown) : Type 0 where
  pub page_is : d.page ≡ page
  pub given_is : d.given ≡ given
  pub since : AreAnsweredSince shared old new d.reads

-- ---- what is read behind this journal

-- what the world answers where the title is asked in this way
pub record IsFetched (start : Start) (journal : List Event) (title : PageTitle) (kind : Kind) (answer : Answer) : Type 0 where
  pub state : State
  pub run : IsRun start journal state
  pub is : answer ≡ answer_in (world_of state) title kind

-- what the replica answers a request
pub record IsGiven (start : Start) (journal : List Event) (request : Request) (value : Data) : Type 0 where
  pub state : State
  pub run : IsRun start journal state
  pub is : value ≡ (replica_reply state (length journal) 0 request).value

-- The answer to a read is of this page and this text, and right in the state behind this journal.
pub record IsReadIn (start : Start) (journal : List Event) (state : State) (page : PageTitle) (given : Option (List ℕ)) (read : PageRead) : Type 0 where
  pub run : IsRun start journal state
  pub page_is : read.draft.page ≡ page
  pub given_is : read.draft.given ≡ given
  pub point_is : read.point ≡ length journal
  pub drafted : drafted_in (world_of state) page given ≡ done read.draft.expanded read.draft.reads
  pub number_is : read.id ≡ shown_number state.history page

abbrev pub IsReadNow : Start → List Event → PageTitle → Option (List ℕ) → PageRead → Type 0
IsReadNow start journal page given read = (state : State) × IsReadIn start journal state page given read
