-- The events that calls make, one in a state and many over time (own). Not each event that is possible is one that a call
-- makes: a save is an edit that was accepted, and a claim, a save and a fan need room in the journal.
use Rattle.std.specs.Prelude.{◌≡◌, ℕ, false, List, [], ◌∷◌, ◌++◌, length, Option, Some}
use Rattle.wk_text_rules.specs.Titles.{PageTitle}
use Rattle.wk_page_rules.specs.Verdict.{EditAsked, MostHeld, accept}
use Rattle.wk_wiki_rules.specs.Jobs.{page_held_by}
use Rattle.wk_wiki_rules.specs.States.{State}
use Rattle.wk_wiki_rules.specs.Events.{Event, Save, Claim, Done, Back, Fan, step_by}
use Rattle.wk_wiki_rules.specs.Verdicts.{verdict_in}
use Rattle.wk_wiki_rules.specs.Room.{is_claim_refused, is_fan_refused}

-- An event that a call makes in a state, behind a journal of this length, under these limits.
pub data IsMade : MostHeld → State → ℕ → Event → Type 0 where
  -- an edit that is accepted is a save of its title and its kept text
  by_save : {most : MostHeld} {state : State} {journal moment : ℕ} {title : PageTitle} {text : Option (List ℕ)} (edit : EditAsked)
      → verdict_in most state journal edit ≡ accept title text → IsMade most state journal (Save title text moment)
  by_claim : {most : MostHeld} {state : State} {journal : ℕ}
      → is_claim_refused most state journal ≡ false → IsMade most state journal Claim
  by_finish : {most : MostHeld} {state : State} {journal ticket : ℕ} (page : ℕ)
      → page_held_by state.jobs ticket ≡ Some page → IsMade most state journal (Done ticket)
  by_give_back : {most : MostHeld} {state : State} {journal ticket : ℕ} → IsMade most state journal (Back ticket)
  by_fan : {most : MostHeld} {state : State} {journal : ℕ}
      → is_fan_refused most state journal ≡ false → IsMade most state journal Fan

-- What calls make over time: a journal of events from one start, counted from 0, under one value of the limits, each
-- event made in the state behind those before it; and the state behind them all. A fan serves at most so many pages.
pub data CallsMake : ℕ → MostHeld → State → List Event → State → Type 0 where
  no_call : {served : ℕ} {most : MostHeld} {start : State} → CallsMake served most start [] start
  one_more : {served : ℕ} {most : MostHeld} {start state next : State} {events : List Event} {event : Event}
      → CallsMake served most start events state
      → IsMade most state (length events) event → step_by served state (length events) event ≡ Some next
      → CallsMake served most start (events ++ event ∷ []) next
