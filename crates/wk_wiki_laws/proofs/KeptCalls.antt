-- What a wiki keeps, over the events that calls make.
use Rattle.std.proofs.Common.{◌≡◌, ℕ, List, [], length, Some}
use Rattle.wk_page_rules.specs.Verdict.{MostHeld}
use Rattle.wk_wiki_rules.specs.States.{State}
use Rattle.wk_wiki_rules.specs.Events.{Event, step_by}
use Rattle.wk_wiki_laws.specs.Kept.{IsKept}
use Rattle.wk_wiki_laws.specs.Reached.{IsWithinFull}
use Rattle.wk_wiki_laws.proofs.KeptStates.{IsKept-step}
use Rattle.wk_wiki_rules.specs.Calls.{CallsMake, IsMade, no_call, one_more}

pub kept-step : (served : ℕ) (most : MostHeld) (state next : State) (journal : ℕ) (event : Event) → IsWithinFull most → IsMade most state journal event → step_by served state journal event ≡ Some next → IsKept state → IsKept next
kept-step served most state next journal event full made done keeps = IsKept-step most served state next journal event full made done keeps

pub kept-calls : (served : ℕ) (most : MostHeld) (start last : State) (events : List Event) → IsWithinFull most → CallsMake served most start events last → IsKept start → IsKept last
kept-calls served most start last [] full no_call keeps = keeps
kept-calls served most start last events full (one_more {state = state} {events = before} {event = event} calls made done) keeps =
    IsKept-step most served state last (length before) event full made done (kept-calls served most start state before full calls keeps)
