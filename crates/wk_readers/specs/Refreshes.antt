-- What one step of a worker did (own). A point is the length of a journal.
use Rattle.std.specs.Prelude.{◌≡◌, ◌⊎◌, ℕ, List, length, Option, Some, Ok, Err}
use mathlib.Core.List.{IsPrefix}
use Rattle.wk_text_rules.specs.Titles.{PageTitle}
use Rattle.wk_view_rules.specs.Worlds.{Read}
use Rattle.wk_wiki_rules.specs.States.{State, world_of}
use Rattle.wk_wiki_rules.specs.Events.{Event}
use Rattle.wk_wiki_rules.specs.Claims.{ClaimOutcome}
use Rattle.wk_wiki_rules.specs.Starts.{Start}
use Rattle.wk_core.specs.declared.outcomes.FanRefusal.TheVariants as fan
use Rattle.wk_core.specs.declared.outcomes.Finished.{Finished}
use Rattle.wk_core.specs.declared.outcomes.Finished.TheVariants as finished
use Rattle.wk_turn.specs.Told.{Begun, Story}
use Rattle.wk_shared.specs.Answers.{BackTold, FanTold, FinishTold}
use Rattle.wk_shared.specs.Calls.{HasSeen, IsMadeAt, MayFail}
use Rattle.wk_read_laws.specs.Points.{AreReadSince, IsStaleSince}
use Rattle.wk_shared.specs.Looks.{HasRead}
use Rattle.wk_readers.specs.Beginnings.{ClaimedTold, FullTold, IdleTold, NothingTold}
use Rattle.wk_readers.specs.Worked.{HasWorked}
use Rattle.wk_readers.specs.declared.outcome.Refreshed.{Refreshed}
use Rattle.wk_readers.specs.declared.outcome.Refreshed.TheVariants.{Idle, Fanned, Done, Back, JournalFull, StoreFault, Memory}

-- what is told of a refresh of this page that came in so
abbrev pub refreshed_by : PageTitle → Finished → Refreshed
refreshed_by page finished.Done = Done page
refreshed_by page (finished.Stale title kind read now) = Back title kind read now
refreshed_by page finished.StoreFault = StoreFault
refreshed_by page finished.Memory = Memory

-- ---- a ticket that comes in

-- A page was drafted without the turn, and then its ticket came in. Each answer of the draft was that of the world at a point
-- from the one on that the pass had seen; the ticket came in by the last event, which is told by these reads.
pub record ComesIn (shared : Begun Start) (old new : Story Start Event) (Last : List Read → Start → State → ℕ → Option Event → Type 0) : Type 0 where
  pub drafted : Story Start Event
  pub read : HasRead shared old drafted
  pub reads : List Read
  pub since : AreReadSince shared.start drafted.seen (length old.seen) reads
  pub later : IsPrefix drafted.seen new.seen
  pub last : IsMadeAt shared.start drafted new (Last reads)

-- How a ticket comes in, by what is answered: done with the title of its page; or given back, with the first read that isn't
-- current, because the store failed, or because memory ran out.
abbrev pub EndTold : Begun Start → Story Start Event → Story Start Event → ClaimOutcome → Refreshed → Type 0
EndTold shared old new ticket (Done title) =
    (title ≡ ticket.title) × ComesIn shared old new (λ reads. FinishTold ticket.ticket reads finished.Done)
EndTold shared old new ticket (Back title kind read now) =
    (c : ComesIn shared old new (λ reads. FinishTold ticket.ticket reads (finished.Stale title kind read now)))
    × IsStaleSince shared.start c.drafted.seen (length old.seen) (world_of c.last.state) (record { title = title; kind = kind; read = read; now = now })
EndTold shared old new ticket StoreFault = ComesIn shared old new (λ reads. FinishTold ticket.ticket reads finished.StoreFault)
EndTold shared old new ticket Memory = ComesIn shared old new (λ reads. BackTold ticket.ticket)
EndTold shared old new ticket (Idle claimed) = ⊥
EndTold shared old new ticket (Fanned fanned) = ⊥
EndTold shared old new ticket JournalFull = ⊥

-- what `bring_in` leaves, for whoever holds the ticket
pub record IsBroughtIn (shared : Begun Start) (old new : Story Start Event) (ticket : ClaimOutcome) (answer : Refreshed) : Type 0 where
  pub pass : HasSeen shared old new (length new.seen)
  pub told : EndTold shared old new ticket answer
  pub fault : answer ≡ StoreFault → MayFail shared.start

-- ---- a step

-- A job was claimed, and its ticket came in: these two events were made, and no ticket of theirs is out.
pub record IsClaimed (shared : Begun Start) (old new : Story Start Event) (answer : Refreshed) : Type 0 where
  pub claimed : Story Start Event
  pub ticket : ClaimOutcome
  pub claim : IsMadeAt shared.start old claimed (ClaimedTold ticket)
  pub end : EndTold shared claimed new ticket answer

-- What a step's answer tells: no event was made, one fan, or a claim and then the event by which its ticket came in.
abbrev pub RefreshTold : Begun Start → Story Start Event → Story Start Event → Refreshed → Type 0
RefreshTold shared old new (Idle claimed) = IsMadeAt shared.start old new (IdleTold claimed)
RefreshTold shared old new (Fanned fanned) = IsMadeAt shared.start old new (FanTold (Ok (Some fanned)))
RefreshTold shared old new (Done title) = IsClaimed shared old new (Done title)
RefreshTold shared old new (Back title kind read now) = IsClaimed shared old new (Back title kind read now)
RefreshTold shared old new JournalFull = IsMadeAt shared.start old new FullTold
RefreshTold shared old new StoreFault = IsMadeAt shared.start old new (FanTold (Err fan.StoreFault)) ⊎ IsClaimed shared old new StoreFault
RefreshTold shared old new Memory = IsMadeAt shared.start old new NothingTold ⊎ IsClaimed shared old new Memory

-- One step: what it leaves of the pass, what its answer tells, and that the store fails only where the keeper may.
pub record IsRefreshed (shared : Begun Start) (old new : Story Start Event) (answer : Refreshed) : Type 0 where
  pub pass : HasWorked shared old new
  pub told : RefreshTold shared old new answer
  pub fault : answer ≡ StoreFault → MayFail shared.start
