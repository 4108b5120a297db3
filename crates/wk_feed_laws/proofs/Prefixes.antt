-- What the first lines of a feed tell.
use Rattle.std.proofs.Common.{◌≡◌, ℕ, zero, suc, ◌+◌, ◌≤◌, leb, List, [], ◌∷◌, ◌++◌, length, map, take, Some, sym, ap, ◌∙◌, subst, arith, inl, inr, length-append}
use Rattle.std.specs.List.{AllByRecursion}
use Rattle.std.proofs.Math.Seq.{take-append-add}
use Rattle.std.proofs.lemmas.Bool.{cases_Bool, leb-true, leb-false}
use Rattle.std.proofs.lemmas.List.{take-append-le, take-map, take_all}
use Rattle.wk_page_rules.specs.Verdict.{MostHeld, full_limits}
use Rattle.wk_table_laws.proofs.FirstBad.{KeepsRules-from_good}
use Rattle.wk_wiki_rules.specs.Steps.{fan_pages}
use Rattle.wk_wiki_rules.specs.States.{State}
use Rattle.wk_wiki_rules.specs.Events.{Event}
use Rattle.wk_wiki_rules.specs.Lives.{state_at}
use Rattle.wk_wiki_rules.specs.Tables.{tables_of}
use Rattle.wk_wiki_rules.specs.Calls.{CallsMake, no_call, one_more}
use Rattle.wk_wiki_laws.proofs.Parts.{replay-calls}
use Rattle.wk_feed_rules.specs.Lines.{TableRow, row, start, line_text}
use Rattle.wk_feed_rules.specs.Feeds.{event_line, feed_of, rows_of_tables, start_lines}
use Rattle.wk_feed_rules.specs.Taking.{fed, loading, running, told}
use Rattle.wk_feed_laws.specs.Fits.{CanStart, LineFits, MomentFits}
use Rattle.wk_feed_laws.proofs.Fed.{feed-told, start-fits}
use Rattle.wk_feed_laws.proofs.Places.{rows-behind}
use Rattle.wk_feed_laws.proofs.Taken.{AreBehind, rows-taken, taken-fed}

all-take : {X : Type 0} (P : X → Type 0) (xs : List X) (n : ℕ) → AllByRecursion P xs → AllByRecursion P (take n xs)
all-take P xs zero all = tt
all-take P [] (suc n) all = tt
all-take P (x ∷ xs) (suc n) all = (all.0, all-take P xs n all.1)

-- ---- the first rows

behind-take : (before rows : List TableRow) (n : ℕ) → AreBehind before rows → AreBehind before (take n rows)
behind-take before rows zero behind = tt
behind-take before [] (suc n) behind = tt
behind-take before (r ∷ rows) (suc n) behind = (behind.0, behind-take (before ++ r ∷ []) rows n behind.1)

map-within : (rows : List TableRow) (n : ℕ) → n ≤ length rows → n ≤ length (map row rows)
map-within rows zero within = omega arith
map-within [] (suc n) within = absurd (omega (arith, within))
map-within (r ∷ rows) (suc n) within = let later = map-within rows n (omega (arith, within)) in omega (arith, later)

first-lines : (from : State) (events : List Event) (n : ℕ) → n ≤ length (rows_of_tables (tables_of from)) → take n (feed_of from events) ≡ map line_text (map row (take n (rows_of_tables (tables_of from))))
first-lines from events n within =
    let rows = rows_of_tables (tables_of from) in
    let long = map-within rows n within in
    let longer : n ≤ length (start_lines from) = let joined = length-append (map row rows) (start ∷ []) in omega (arith, long, joined) in
    take-map line_text n (start_lines from ++ map event_line events)
    ∙ ap (map line_text) (take-append-le n (start_lines from) (map event_line events) longer ∙ (take-append-le n (map row rows) (start ∷ []) long ∙ take-map row n rows))

fits-rows : (rows : List TableRow) → AllByRecursion LineFits (map row rows ++ start ∷ []) → AllByRecursion LineFits (map row rows)
fits-rows [] all = tt
fits-rows (r ∷ rows) all = (all.0, fits-rows rows all.1)

pub rows-told : (from : State) (events : List Event) (n : ℕ) → CanStart from → n ≤ length (rows_of_tables (tables_of from))
    → fed (take n (feed_of from events)) ≡ told (loading (take n (rows_of_tables (tables_of from))))
rows-told from events n can within =
    let rows = rows_of_tables (tables_of from) in
    let fits = subst (AllByRecursion LineFits) (take-map row n rows) (all-take LineFits (map row rows) n (fits-rows rows (start-fits from can))) in
    ap fed (first-lines from events n within)
    ∙ taken-fed (map row (take n rows)) 1 (loading []) (loading (take n rows)) fits
    (rows-taken (take n rows) [] (behind-take [] rows n (rows-behind (tables_of from) (KeepsRules-from_good (tables_of from) can.good))))

-- ---- the first events

abbrev pub Made : ℕ → MostHeld → State → List Event → Type 0
Made served most from events = (state : State) × CallsMake served most from events state

pub calls-take : (served : ℕ) (most : MostHeld) (from last : State) (events : List Event) (n : ℕ) → CallsMake served most from events last → Made served most from (take n events)
calls-take served most from last [] n no_call = subst (Made served most from) (sym (take_all n [] (omega arith))) (last, no_call)
calls-take served most from last events n (one_more {state = state} {events = before} {event = event} calls made stepped) = elim (cases_Bool (leb n (length before))) [
  | inl within ↦ subst (Made served most from) (sym (take-append-le n before (event ∷ []) (leb-true n (length before) within))) (calls-take served most from state before n calls)
  | inr past ↦
      let more = leb-false n (length before) past in
      let joined = length-append before (event ∷ []) in
      let whole : length (before ++ event ∷ []) ≤ n = omega (arith, more, joined) in
      subst (Made served most from) (sym (take_all n (before ++ event ∷ []) whole)) (last, one_more calls made stepped)
]

first-events : (from : State) (events : List Event) (n : ℕ) → take (length (start_lines from) + n) (feed_of from events) ≡ feed_of from (take n events)
first-events from events n =
    take-map line_text (length (start_lines from) + n) (start_lines from ++ map event_line events)
    ∙ ap (map line_text) (take-append-add (start_lines from) (map event_line events) n ∙ ap (λ l. start_lines from ++ l) (take-map event_line n events))

pub events-told : (from last : State) (events : List Event) (n : ℕ) → CanStart from → CallsMake fan_pages full_limits from events last → AllByRecursion MomentFits events
    → (state : State) × (state_at from events n ≡ Some state)
    × (fed (take (length (start_lines from) + n) (feed_of from events)) ≡ told (running (record { from = from; events = take n events; state = state })))
events-told from last events n can calls fits =
    let first = calls-take fan_pages full_limits from last events n calls in (
      first.0,
      replay-calls fan_pages full_limits from first.0 (take n events) first.1,
      ap fed (first-events from events n) ∙ feed-told from first.0 (take n events) can first.1 (all-take MomentFits events n fits),
    )
