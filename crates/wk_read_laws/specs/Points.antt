-- Answers of points of a journal (own). A point is the length of a journal.
use Rattle.std.specs.Prelude.{◌≡◌, ◌≢◌, ℕ, ◌≤◌, All, List, length, Some}
use Rattle.wk_view_rules.specs.Worlds.{Read, World, answer_in, mark}
use Rattle.wk_wiki_rules.specs.States.{State, world_of}
use Rattle.wk_wiki_rules.specs.Events.{Event}
use Rattle.wk_wiki_rules.specs.Lives.{state_at}
use Rattle.wk_wiki_rules.specs.Staleness.{StaleRead}
use Rattle.wk_wiki_rules.specs.Starts.{Start}

-- the answer is the one of the world at some point of the journal from this one on
pub record IsReadSince (start : Start) (journal : List Event) (from : ℕ) (read : Read) : Type 0 where
  pub point : ℕ
  pub since : from ≤ point
  pub within : point ≤ length journal
  pub state : State
  pub stands : state_at start.state journal point ≡ Some state
  pub answered : answer_in (world_of state) read.title read.kind ≡ read.answer

-- each of the answers is
abbrev pub AreReadSince : Start → List Event → ℕ → List Read → Type 0
AreReadSince start journal from reads = All (IsReadSince start journal from) reads

-- A read isn't current: its mark was that of the world at some point of the journal from this one on, and it is another one
-- than these pages have.
pub record IsStaleSince (start : Start) (journal : List Event) (from : ℕ) (pages : World) (stale : StaleRead) : Type 0 where
  pub point : ℕ
  pub since : from ≤ point
  pub within : point ≤ length journal
  pub state : State
  pub stands : state_at start.state journal point ≡ Some state
  pub was : stale.read ≡ mark (answer_in (world_of state) stale.title stale.kind)
  pub is : stale.now ≡ mark (answer_in pages stale.title stale.kind)
  pub differs : stale.read ≢ stale.now
