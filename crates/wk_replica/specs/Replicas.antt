-- What a replica is seen as (own).
use Rattle.std.specs.Prelude.{◌≡◌, ℕ, ◌+◌, Bool, false, List, [], length, Option, Some, None}
use Rattle.wk_wiki_rules.specs.States.{State, no_state}
use Rattle.wk_wiki_rules.specs.Events.{Event}
use Rattle.wk_wiki_rules.specs.Starts.{Start}
use Rattle.wk_feed_rules.specs.Lines.{TableRow}
use Rattle.wk_feed_rules.specs.Taking.{FeedSoFar, loading, running}

-- how the wiki began that its events are made in, and the number of the line that told it, from 1; none before that line
pub record ReplicaBegun : Type 0 where
  pub wiki : Start
  pub line : Option ℕ

pub record ReplicaSeen : Type 0 where
  pub start : ReplicaBegun
  -- the rows that were told, as long as the start wasn't
  pub rows : List TableRow
  -- the events that were taken
  pub journal : List Event
  -- the state behind them
  pub state : State
  -- it takes and answers no more
  pub stopped : Bool

-- what the lines that were taken tell
abbrev pub so_far : ReplicaSeen → FeedSoFar
so_far replica = elim replica.start.line [
  | None ↦ loading replica.rows
  | Some line ↦ running (record { from = replica.start.wiki.state; events = replica.journal; state = replica.state })
]

-- how many lines were taken
abbrev pub lines_taken : ReplicaSeen → ℕ
lines_taken replica = elim replica.start.line [ None ↦ length replica.rows | Some line ↦ line + length replica.journal ]

-- an empty wiki without events
pub record IsEmpty (replica : ReplicaSeen) : Type 0 where
  pub journal : replica.journal ≡ []
  pub state : replica.state ≡ no_state
  pub going : replica.stopped ≡ false

-- nothing was taken yet
pub record IsNew (replica : ReplicaSeen) : Type 0 where
  pub line : replica.start.line ≡ None
  pub rows : replica.rows ≡ []
  pub journal : replica.journal ≡ []
  pub state : replica.state ≡ no_state
  pub going : replica.stopped ≡ false
