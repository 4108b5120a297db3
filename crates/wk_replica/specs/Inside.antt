-- What the parts of a replica stand for together.
use Rattle.std.specs.Prelude.{◌≡◌, ℕ, ◌-◌, ◌≤◌, Bool, true, false, List, [], length, map, take, Option, None, unwrap_or, if◌then◌else◌}
use Rattle.wk_page_rules.specs.Verdict.{full_limits}
use Rattle.wk_wiki_rules.specs.States.{State, no_state}
use Rattle.wk_wiki_rules.specs.Events.{Event}
use Rattle.wk_wiki_rules.specs.Lives.{state_at}
use Rattle.wk_core.specs.Seen.{WikiSeen}
use Rattle.wk_feed_rules.specs.Lines.{TableRow}
use Rattle.wk_feed_lines.specs.Said.{row_of}
use Rattle.wk_replica.specs.Replicas.{ReplicaSeen}
use Rattle.wk_replica.specs.declared.replica.Replica.TheInside.{Inside}

-- how many events there are before the last
abbrev pub before_last : List Event → ℕ
before_last events = length events - 1

-- the state behind so many events of the wiki
abbrev pub state_behind : {K : Type 0} → WikiSeen K → ℕ → State
state_behind wiki point = unwrap_or (state_at wiki.start.state wiki.journal point) wiki.start.state

-- what is told where the last event of a wiki counts for nothing
abbrev pub journal_told : {K : Type 0} → Bool → WikiSeen K → List Event
journal_told stopped wiki = if stopped then take (before_last wiki.journal) wiki.journal else wiki.journal

abbrev pub state_told : {K : Type 0} → Bool → WikiSeen K → State
state_told stopped wiki = if stopped then state_behind wiki (before_last wiki.journal) else wiki.state

-- what is seen of a wiki that began with the line of this number, of these rows before, and whether it is stopped
abbrev pub seen_of : {K : Type 0} → Option ℕ → List TableRow → Bool → WikiSeen K → ReplicaSeen
seen_of line rows stopped wiki = record {
  start = record { wiki = wiki.start; line = line };
  rows = rows;
  journal = journal_told stopped wiki;
  state = state_told stopped wiki;
  stopped = stopped;
}

abbrev pub seen : Inside → ReplicaSeen
seen r = seen_of r.line (map row_of r.rows.items) r.stopped r.wiki

-- before the line of the start
pub record IsUnbegun {K : Type 0} (stopped : Bool) (wiki : WikiSeen K) : Type 0 where
  pub journal : wiki.journal ≡ []
  pub state : wiki.state ≡ no_state
  pub going : stopped ≡ false

-- The wiki has full limits and isn't sealed. Where the replica is stopped it has an event that wasn't taken.
pub record IsWithin {K : Type 0} (line : Option ℕ) (stopped : Bool) (wiki : WikiSeen K) : Type 0 where
  pub limits : wiki.start.limits ≡ full_limits
  pub unsealed : wiki.start.sealed ≡ None
  pub unbegun : line ≡ None → IsUnbegun stopped wiki
  pub lost : stopped ≡ true → 1 ≤ length wiki.journal

abbrev pub IsKept : Inside → Type 0
IsKept r = IsWithin r.line r.stopped r.wiki
