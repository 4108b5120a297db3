-- What a pass has looked at (own). A point is the length of a journal.
use Rattle.std.specs.Prelude.{◌≡◌, ℕ, Bool, false, ◌&&◌, IsTrue, List, length, Option, Some, None, IsSome, is_none}
use mathlib.Core.List.{IsPrefix}
use Rattle.wk_text_rules.specs.Titles.{PageTitle}
use Rattle.wk_view_rules.specs.Worlds.{Read, World}
use Rattle.wk_wiki_rules.specs.Jobs.{first_fan, first_queued}
use Rattle.wk_wiki_rules.specs.States.{State}
use Rattle.wk_wiki_rules.specs.Events.{Event}
use Rattle.wk_wiki_rules.specs.Claims.{ClaimOutcome}
use Rattle.wk_wiki_rules.specs.Passes.{IsReadAt, PageReading}
use Rattle.wk_wiki_rules.specs.Staleness.{first_stale}
use Rattle.wk_wiki_rules.specs.Starts.{Start}
use Rattle.wk_life_laws.specs.Runs.{IsRun}
use Rattle.wk_core.specs.Seen.{WikiSeen}
use Rattle.wk_core.specs.declared.outcomes.PageRead.{PageRead}
use Rattle.wk_turn.specs.Told.{Begun, IsOf, Story}
use Rattle.wk_shared.specs.Calls.{HoldsTicket, seen_by}

-- The wiki that a pass has taken: it began as the shared wiki did, and its journal begins with what the pass had seen.
pub record IsTakenToLook {K : Type 0} (shared : Begun Start) (old new : Story Start Event) (wiki : WikiSeen K) : Type 0 where
  pub pass : new ≡ record old { held = Some wiki.journal }
  pub start : wiki.start ≡ shared.start
  pub seen : IsPrefix old.seen wiki.journal
  pub run : IsRun shared.start wiki.journal wiki.state

-- A call that only looks: the pass is free, it has seen more of the journal or as much, and it has made no entry.
pub record HasRead (shared : Begun Start) (old new : Story Start Event) : Type 0 where
  pub turn : IsOf shared new
  pub free : new.held ≡ None
  pub seen : IsPrefix old.seen new.seen
  pub own : new.own ≡ old.own

-- each ticket that the pass held it holds still
abbrev pub KeepsTickets : Start → Story Start Event → Story Start Event → Type 0
KeepsTickets start old new = (ticket : ClaimOutcome) → HoldsTicket start old ticket → HoldsTicket start new ticket

-- such a call that was made in this state, which is the one behind what the pass has seen
pub record HasLooked (shared : Begun Start) (old new : Story Start Event) (state : State) : Type 0 where
  pub read : HasRead shared old new
  pub run : IsRun shared.start new.seen state

-- no job is to be done: no refresh job is queued, and no fan job stands
abbrev pub is_idle : State → Bool
is_idle state = is_none (first_queued state.jobs) && is_none (first_fan state.jobs)

-- whether each of the reads is current: it is told so exactly where none of them is stale
pub record TellsCurrent (pages : World) (reads : List Read) (told : Bool) : Type 0 where
  pub none_stale : IsTrue told → first_stale pages reads ≡ None
  pub some_stale : told ≡ false → IsSome (first_stale pages reads)

-- what is answered to a read, as the rules have it
abbrev pub reading_of : PageRead → PageReading
reading_of read = record {
  page = read.draft.page;
  given = read.draft.given;
  expanded = read.draft.expanded;
  reads = read.draft.reads;
  number = read.id;
  point = read.point;
}

-- the answer is of this page and this text, and right at the point that the pass has seen last
pub record IsPresentRead (shared : Begun Start) (pass : Story Start Event) (page : PageTitle) (given : Option (List ℕ)) (read : PageRead) : Type 0 where
  pub page_is : read.draft.page ≡ page
  pub given_is : read.draft.given ≡ given
  pub point_is : read.point ≡ length pass.seen
  pub right : IsReadAt (seen_by shared.start pass) (reading_of read)
