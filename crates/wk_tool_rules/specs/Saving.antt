-- What saves one after the other make, up to the first that is refused (own).
use Rattle.std.specs.Prelude.{ℕ, ◌+◌, List, [], ◌∷◌, Option, Some, None}
use Rattle.wk_base.specs.Clock.{first_moment, later_moments}
use Rattle.wk_page_rules.specs.Verdict.{EditAsked, MostHeld, Refusal, refuse, no_change, accept}
use Rattle.wk_wiki_rules.specs.States.{State}
use Rattle.wk_wiki_rules.specs.Events.{Event, Save, with_saved}
use Rattle.wk_wiki_rules.specs.Verdicts.{verdict_in}

-- the events that were made, the state behind them, and why the saves ended, if they didn't come to their end
pub record SavesMade : Type 0 where
  pub events : List Event
  pub after : State
  pub refused : Option Refusal

abbrev pub with_event : Event → SavesMade → SavesMade
with_event event later = record later { events = event ∷ later.events }

-- The saves in a state, behind a journal of this length. Each takes the clock's next moment; one that changes nothing makes
-- no event.
unfoldable pub saves_made : MostHeld → State → ℕ → List EditAsked → List ℕ → SavesMade
saves_made most state journal [] moments = record { events = []; after = state; refused = None }
saves_made most state journal (edit ∷ edits) moments =
    let moment = first_moment moments in
    elim (verdict_in most state journal edit) [
      | refuse refusal ↦ record { events = []; after = state; refused = Some refusal }
      | no_change title ↦ saves_made most state journal edits (later_moments moments)
      | accept title text ↦
          with_event (Save title text moment)
          (saves_made most (with_saved state title text moment) (journal + 1) edits (later_moments moments))
    ]
