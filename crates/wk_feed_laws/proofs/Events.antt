-- The events that calls make are taken from their lines.
use Rattle.std.proofs.Common.{◌≡◌, ℕ, true, cond, List, [], ◌∷◌, ◌++◌, length, map, bytes_eq, Option, Some, None, option_and_then, option_map, refl, ap, ◌∙◌}
use Rattle.std.proofs.lemmas.Bool.{and_from}
use Rattle.std.proofs.lemmas.List.{map-append}
use Rattle.wk_text_rules.specs.Titles.{shown}
use Rattle.wk_page_rules.specs.Verdict.{full_limits}
use Rattle.wk_wiki_rules.specs.Steps.{fan_pages}
use Rattle.wk_wiki_rules.specs.States.{State}
use Rattle.wk_wiki_rules.specs.Events.{Event, Save, Claim, Done, Back, Fan, step}
use Rattle.wk_wiki_rules.specs.Calls.{CallsMake, IsMade, by_save, by_claim, by_finish, by_give_back, by_fan, no_call, one_more}
use Rattle.wk_feed_rules.specs.Feeds.{event_line}
use Rattle.wk_feed_rules.specs.Taking.{FeedRun, FeedSoFar, running, event_of_line, is_same, line_taken, that_very_save, with_event}
use Rattle.wk_feed_laws.proofs.Said.{same-bytes}
use Rattle.wk_feed_laws.proofs.SavedAgain.{verdict-again}
use Rattle.wk_feed_laws.proofs.Taken.{all_taken, all_taken-append}

-- ---- one event

same-text : (text : Option (List ℕ)) → is_same text text ≡ true
same-text None = refl
same-text (Some text) = same-bytes text

pub event-of-its-line : (state : State) (journal : ℕ) (event : Event) → IsMade full_limits state journal event → event_of_line state journal (event_line event) ≡ Some event
event-of-its-line state journal (Save title text moment) (by_save edit accepted) =
    ap (that_very_save (shown title) text moment) (verdict-again full_limits state journal edit title text accepted)
    ∙ ap (λ b. cond b (Some (Save title text moment)) None) (and_from (bytes_eq (shown title) (shown title)) (is_same text text) (same-bytes (shown title)) (same-text text))
event-of-its-line state journal Claim (by_claim room) = ap (λ b. cond b None (Some Claim)) room
event-of-its-line state journal (Done ticket) (by_finish page held) = refl
event-of-its-line state journal (Back ticket) by_give_back = refl
event-of-its-line state journal Fan (by_fan room) = ap (λ b. cond b None (Some Fan)) room

pub event-taken : (run : FeedRun) (event : Event) (next : State) → IsMade full_limits run.state (length run.events) event → step run.state (length run.events) event ≡ Some next
    → line_taken (running run) (event_line event) ≡ Some (running (record { from = run.from; events = run.events ++ event ∷ []; state = next }))
event-taken run event next made stepped =
    ap (λ (o : Option Event). option_and_then (with_event run) o) (event-of-its-line run.state (length run.events) event made)
    ∙ ap (option_map (λ (s : State). running (record { from = run.from; events = run.events ++ event ∷ []; state = s }))) stepped

-- ---- the events of calls

pub events-taken : (from last : State) (events : List Event) → CallsMake fan_pages full_limits from events last
    → all_taken (running (record { from = from; events = []; state = from })) (map event_line events) ≡ Some (running (record { from = from; events = events; state = last }))
events-taken from last [] no_call = refl
events-taken from last events (one_more {state = state} {events = before} {event = event} calls made stepped) =
    ap (all_taken (running (record { from = from; events = []; state = from }))) (map-append event_line before (event ∷ []))
    ∙ (all_taken-append (running (record { from = from; events = []; state = from })) (map event_line before) (event_line event ∷ [])
    ∙ (ap (λ (o : Option FeedSoFar). option_and_then (λ next. all_taken next (event_line event ∷ [])) o) (events-taken from state before calls)
    ∙ ap (λ (o : Option FeedSoFar). option_and_then (λ next. all_taken next []) o) (event-taken (record { from = from; events = before; state = state }) event last made stepped)))
