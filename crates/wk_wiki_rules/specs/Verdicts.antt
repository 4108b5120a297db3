-- The verdict on an edit in a state, and the event of an accepted one (MediaWiki's API:Edit; the order is own).
use Rattle.std.specs.Prelude.{ℕ, Option, Some, None}
use Rattle.wk_page_rules.specs.Verdict.{EditAsked, JournalUse, MostHeld, Verdict, refuse, no_change, accept, verdict}
use Rattle.wk_wiki_rules.specs.Jobs.{left}
use Rattle.wk_wiki_rules.specs.States.{State}
use Rattle.wk_wiki_rules.specs.Events.{Event, Save}

-- What is used behind a journal of this length. The tickets that are out are the jobs that are claimed.
abbrev pub journal_use : State → ℕ → JournalUse
journal_use state journal = record { journal = journal; tickets = (left state.jobs).claimed; next_job = state.jobs.next }

-- the verdict behind a journal of this length
abbrev pub verdict_in : MostHeld → State → ℕ → EditAsked → Verdict
verdict_in most state journal edit = verdict state.history most (journal_use state journal) edit

-- an accepted edit is a save of its title and its kept text, at the moment of the call; no other makes an event
abbrev pub event_of : Verdict → ℕ → Option Event
event_of (refuse refusal) moment = None
event_of (no_change title) moment = None
event_of (accept title text) moment = Some (Save title text moment)
