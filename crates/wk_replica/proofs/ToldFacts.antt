-- What a replica is behind the line of an event.
use Rattle.std.proofs.Common.{◌≡◌, ℕ, ◌+◌, Bool, true, false, List, [], ◌∷◌, ◌++◌, length, take, Option, Some, None, is_some, unwrap_or, Result, Ok, Err, refl, sym, ap, ◌∙◌, subst, arith, inl, inr, length-append}
use Rattle.std.proofs.lemmas.List.{take-append-le, take_all}
use Rattle.wk_wiki_rules.specs.Steps.{fan_pages}
use Rattle.wk_wiki_rules.specs.States.{State}
use Rattle.wk_wiki_rules.specs.Events.{Event}
use Rattle.wk_wiki_rules.specs.Lives.{replay}
use Rattle.wk_wiki_rules.specs.Starts.{Start}
use Rattle.wk_wiki_laws.proofs.Parts.{replay-calls}
use Rattle.wk_life_laws.specs.Runs.{IsRun}
use Rattle.wk_feed_rules.specs.Lines.{FeedLine, TableRow, start as start_line}
use Rattle.wk_feed_rules.specs.Taking.{FeedRun, line_taken, running, with_event_line}
use Rattle.wk_core.specs.Seen.{WikiSeen}
use Rattle.wk_feed_lines.specs.Said.{event_line_of}
use Rattle.wk_feed_lines.specs.declared.line.EventLine.{EventLine}
use Rattle.wk_feed_lines.specs.declared.line.EventLine.TheVariants.{Save, Claim, Done, Back, Fan}
use Rattle.wk_replica.specs.declared.refusal.TakeRefusal.{TakeRefusal}
use Rattle.wk_replica.specs.declared.events.EventRefusal.{EventRefusal}
use Rattle.wk_replica.specs.declared.events.EventRefusal.TheVariants.{Bad, Memory, Lost}
use Rattle.wk_replica.specs.Followed.{HasFollowed, HasLost, IsFollowed, IsToldOf, Stays, run_of}
use Rattle.wk_replica.specs.Loaded.{IsLoaded}
use Rattle.wk_replica.specs.Inside.{before_last, journal_told, seen_of, state_behind, state_told}
use Rattle.wk_replica.specs.Replicas.{ReplicaSeen, lines_taken, so_far}
use Rattle.wk_replica.specs.Taken.{HasGoneOn, HasTaken, IsTaken, stopped_at}

-- a replica that isn't stopped, by its parts
abbrev parted : Option ℕ → List TableRow → Bool → Start → List Event → State → ReplicaSeen
parted line rows stopped start journal state = record { start = record { wiki = start; line = line }; rows = rows; journal = journal; state = state; stopped = stopped }

parts-same : (line : Option ℕ) (rows : List TableRow) (stopped : Bool) (s t : Start) (j k : List Event) (x y : State) → s ≡ t → j ≡ k → x ≡ y
    → parted line rows stopped s j x ≡ parted line rows stopped t k y
parts-same line rows stopped s t j k x y start journal state =
    ap (λ (s : Start). parted line rows stopped s j x) start
    ∙ (ap (λ (j : List Event). parted line rows stopped t j x) journal ∙ ap (parted line rows stopped t k) state)

one-longer : (old : List Event) (event : Event) → length (old ++ event ∷ []) ≡ length old + 1
one-longer old event = let joined = length-append old (event ∷ []) in omega (arith, joined)

-- what is told where the last event counts for nothing
first-told : (old : List Event) (event : Event) → take (before_last (old ++ event ∷ [])) (old ++ event ∷ []) ≡ old
first-told old event =
    let count : before_last (old ++ event ∷ []) ≡ length old = let longer = one-longer old event in omega (arith, longer) in
    ap (λ n. take n (old ++ event ∷ [])) count
    ∙ (take-append-le (length old) old (event ∷ []) (omega arith) ∙ take_all (length old) old (omega arith))

-- ---- taken

goes-on : {K : Type 0} (begun : ℕ) (rows : List TableRow) (old new : WikiSeen K) (said : FeedLine) → HasFollowed old said new
    → HasGoneOn (seen_of (Some begun) rows false old) (seen_of (Some begun) rows false new)
goes-on begun rows old new said followed = record {
  lines =
      let longer = ap (λ (j : List Event). length j) followed.journal ∙ one-longer old.journal followed.event in
      omega (arith, longer);
  going = refl;
  event = λ number is. record {
    start = ap (λ (s : Start). record { wiki = s; line = Some begun }) followed.start;
    event = followed.event;
    journal = followed.journal;
  };
}

stays-told : {K : Type 0} (begun : ℕ) (rows : List TableRow) (old new : WikiSeen K) → Stays old new
    → seen_of (Some begun) rows false new ≡ seen_of (Some begun) rows false old
stays-told begun rows old new stays =
    parts-same (Some begun) rows false new.start old.start new.journal old.journal new.state old.state stays.start stays.journal stays.state

lost-told : {K : Type 0} (begun : ℕ) (rows : List TableRow) (old new : WikiSeen K) → IsRun old.start old.journal old.state → HasLost old new
    → seen_of (Some begun) rows true new ≡ stopped_at (seen_of (Some begun) rows false old)
lost-told begun rows old new run lost =
    parts-same (Some begun) rows true new.start old.start (journal_told true new) old.journal (state_told true new) old.state lost.start journal state
  where
    journal : take (before_last new.journal) new.journal ≡ old.journal
    journal = ap (λ (j : List Event). take (before_last j) j) lost.journal ∙ first-told old.journal lost.event

    state : state_behind new (before_last new.journal) ≡ old.state
    state =
        ap (λ (s : Start). unwrap_or (replay s.state (take (before_last new.journal) new.journal)) s.state) lost.start
        ∙ (ap (λ (j : List Event). unwrap_or (replay old.start.state j) old.start.state) journal
        ∙ ap (λ o. unwrap_or o old.start.state) (replay-calls fan_pages old.start.limits old.start.state old.state old.journal run.calls))

by-cases : {K T U : Type 0} (begun number : ℕ) (rows : List TableRow) (stopped : Bool) (old new : WikiSeen K) (said : FeedLine) (followed : Result T EventRefusal) (told : Result U TakeRefusal)
    → number ≡ lines_taken (seen_of (Some begun) rows false old) + 1 → IsRun old.start old.journal old.state
    → IsFollowed old said new followed → IsToldOf followed number false stopped told
    → (line_taken (so_far (seen_of (Some begun) rows false old)) said ≡ with_event_line (run_of old) said)
    → IsTaken (seen_of (Some begun) rows false old) said (seen_of (Some begun) rows stopped new) told
by-cases begun number rows stopped old new said (Ok x) (Ok y) counted run followed tells same =
    subst (λ (b : Bool). HasTaken (seen_of (Some begun) rows false old) said (seen_of (Some begun) rows b new)) (sym tells.1)
    (record { told = same ∙ followed.told; goes_on = goes-on begun rows old new said followed })
by-cases begun number rows stopped old new said (Ok x) (Err e) counted run followed tells same = absurd (let off : false ≡ true = tells.0 in cc)
by-cases begun number rows stopped old new said (Err Bad) told counted run followed tells same =
    subst (λ r. IsTaken (seen_of (Some begun) rows false old) said (seen_of (Some begun) rows stopped new) r) (sym tells.0)
    (counted, same ∙ followed.0, ap (λ (b : Bool). seen_of (Some begun) rows b new) tells.1 ∙ stays-told begun rows old new followed.1)
by-cases begun number rows stopped old new said (Err Memory) told counted run followed tells same =
    subst (λ r. IsTaken (seen_of (Some begun) rows false old) said (seen_of (Some begun) rows stopped new) r) (sym tells.0)
    (inl (ap (λ (b : Bool). seen_of (Some begun) rows b new) tells.1 ∙ stays-told begun rows old new followed))
by-cases begun number rows stopped old new said (Err Lost) told counted run followed tells same =
    subst (λ r. IsTaken (seen_of (Some begun) rows false old) said (seen_of (Some begun) rows stopped new) r) (sym tells.0)
    (inr (ap (λ (b : Bool). seen_of (Some begun) rows b new) tells.1 ∙ lost-told begun rows old new run followed))

-- ---- by what is known of the replica

event-taken : (run : FeedRun) (event : EventLine) → line_taken (running run) (event_line_of event) ≡ with_event_line run (event_line_of event)
event-taken run (Save title text moment) = refl
event-taken run Claim = refl
event-taken run (Done ticket) = refl
event-taken run (Back ticket) = refl
event-taken run Fan = refl

-- what came of an event is what becomes of the replica
pub event-told : {K T U : Type 0} (line : Option ℕ) (number : ℕ) (rows : List TableRow) (stopped later : Bool) (old new : WikiSeen K) (event : EventLine) (followed : Result T EventRefusal) (told : Result U TakeRefusal)
    → is_some line ≡ true → stopped ≡ false → number ≡ lines_taken (seen_of line rows stopped old) + 1 → IsRun old.start old.journal old.state
    → IsFollowed old (event_line_of event) new followed → IsToldOf followed number stopped later told
    → IsTaken (seen_of line rows stopped old) (event_line_of event) (seen_of line rows later new) told
event-told None number rows stopped later old new event followed told begun going counted run is tells = absurd (let none : false ≡ true = begun in cc)
event-told (Some b) number rows true later old new event followed told begun going counted run is tells = absurd (let on : true ≡ false = going in cc)
event-told (Some b) number rows false later old new event followed told begun going counted run is tells =
    by-cases b number rows later old new (event_line_of event) followed told counted run is tells (event-taken (run_of old) event)

-- ---- the line of the start

-- the wiki that is opened over the rows is what is told
pub start-told : {K : Type 0} (line : Option ℕ) (number : ℕ) (rows : List TableRow) (stopped : Bool) (old new : WikiSeen K)
    → is_some line ≡ false → stopped ≡ false → number ≡ lines_taken (seen_of line rows stopped old) + 1
    → IsLoaded rows (Some new) → HasTaken (seen_of line rows stopped old) start_line (seen_of (Some number) [] stopped new)
start-told (Some b) number rows stopped old new early going counted loaded = absurd (let some : true ≡ false = early in cc)
start-told None number rows true old new early going counted loaded = absurd (let on : true ≡ false = going in cc)
start-told None number rows false old new early going counted loaded = record {
  told = loaded.0;
  goes_on = record {
    lines =
        let none : length new.journal ≡ 0 = ap (λ (j : List Event). length j) loaded.1.journal in
        omega (arith, none, counted);
    going = refl;
    event = λ n is. absurd (let some : None ≡ Some n = is in cc);
  };
}
