-- A journal in two parts, and journals that calls make.
use Rattle.std.proofs.Common.{◌≡◌, ℕ, ◌+◌, List, [], ◌∷◌, ◌++◌, length, Option, Some, None, refl, sym, ap, ◌∙◌, arith}
use Rattle.std.specs.Prelude.{option_and_then}
use Rattle.wk_page_rules.specs.Verdict.{MostHeld}
use Rattle.wk_wiki_rules.specs.States.{State}
use Rattle.wk_wiki_rules.specs.Events.{Event, step_by}
use Rattle.wk_wiki_rules.specs.Lives.{replay_from, replay_by}
use Rattle.wk_wiki_rules.specs.Calls.{CallsMake, no_call, one_more}

pub replay-append : (served : ℕ) (start : State) (journal : ℕ) (first second : List Event)
    → replay_from served start journal (first ++ second) ≡ option_and_then (λ middle. replay_from served middle (journal + length first) second) (replay_from served start journal first)
replay-append served start journal [] second = let same : journal + 0 ≡ journal = omega arith in rw same refl
replay-append served start journal (event ∷ first) second =
    by (step_by served start journal event) (λ next. replay-append served next (journal + 1) first second)
  where
    one : (middle : State) → replay_from served middle (journal + 1 + length first) second ≡ replay_from served middle (journal + length (event ∷ first)) second
    one middle = let same : journal + 1 + length first ≡ journal + length (event ∷ first) = omega arith in ap (λ n. replay_from served middle n second) same

    then : (o : Option State) → option_and_then (λ middle. replay_from served middle (journal + 1 + length first) second) o ≡ option_and_then (λ middle. replay_from served middle (journal + length (event ∷ first)) second) o
    then None = refl
    then (Some middle) = one middle

    by : (o : Option State)
        → ((next : State) → replay_from served next (journal + 1) (first ++ second) ≡ option_and_then (λ middle. replay_from served middle (journal + 1 + length first) second) (replay_from served next (journal + 1) first))
        → option_and_then (λ next. replay_from served next (journal + 1) (first ++ second)) o
        ≡ option_and_then (λ middle. replay_from served middle (journal + length (event ∷ first)) second) (option_and_then (λ next. replay_from served next (journal + 1) first) o)
    by None later = refl
    by (Some next) later = later next ∙ then (replay_from served next (journal + 1) first)

-- one event more
pub replay-push : (served : ℕ) (start state next : State) (events : List Event) (event : Event) → replay_by served start events ≡ Some state → step_by served state (length events) event ≡ Some next → replay_by served start (events ++ event ∷ []) ≡ Some next
replay-push served start state next events event before done =
    replay-append served start 0 events (event ∷ [])
    ∙ (ap (λ o. option_and_then (λ middle. replay_from served middle (0 + length events) (event ∷ [])) o) before ∙ one)
  where
    one : replay_from served state (0 + length events) (event ∷ []) ≡ Some next
    one = let same : 0 + length events ≡ length events = omega arith in rw (same, done) refl

-- the last event of a journal was made behind those before it
pub replay-last : (served : ℕ) (start state next : State) (events : List Event) (event : Event) → replay_by served start events ≡ Some state → replay_by served start (events ++ event ∷ []) ≡ Some next → step_by served state (length events) event ≡ Some next
replay-last served start state next events event before after =
    let both : option_and_then (λ middle. replay_from served middle (0 + length events) (event ∷ [])) (Some state) ≡ Some next =
    ap (λ o. option_and_then (λ middle. replay_from served middle (0 + length events) (event ∷ [])) o) (sym before) ∙ (sym (replay-append served start 0 events (event ∷ [])) ∙ after) in
    let same : 0 + length events ≡ length events = omega arith in
    by (step_by served state (length events) event) (rw same at both)
  where
    by : (o : Option State) → option_and_then (λ last. replay_from served last (length events + 1) []) o ≡ Some next → o ≡ Some next
    by None e = e
    by (Some last) e = e

pub replay-calls : (served : ℕ) (most : MostHeld) (start last : State) (events : List Event) → CallsMake served most start events last → replay_by served start events ≡ Some last
replay-calls served most start last [] no_call = refl
replay-calls served most start last events (one_more {state = state} {events = before} {event = event} calls made done) =
    replay-push served start state last before event (replay-calls served most start state before calls) done
