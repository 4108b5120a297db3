-- What lines tell that are the feed of a start and of events.
use Rattle.std.proofs.Common.{◌≡◌, ℕ, suc, ◌+◌, true, cond, ◌&&◌, eqb, List, [], ◌∷◌, ◌++◌, length, map, Option, Some, None, is_none, option_and_then, option_map, refl, sym, ap, ◌∙◌, subst, arith}
use Rattle.std.specs.List.{AllByRecursion, enumerate_from}
use Rattle.wk_page_rules.specs.Verdict.{full_limits}
use Rattle.wk_page_rules.specs.History.{Revision}
use Rattle.wk_table_rules.specs.Rows.{RevisionColumns, StoreTables, newest_version}
use Rattle.wk_table_rules.specs.GoodStore.{first_broken}
use Rattle.wk_table_laws.proofs.FirstBad.{KeepsRules-from_good}
use Rattle.wk_wiki_rules.specs.Jobs.{page_held_by}
use Rattle.wk_wiki_rules.specs.Steps.{fan_pages}
use Rattle.wk_wiki_rules.specs.States.{State}
use Rattle.wk_wiki_rules.specs.Events.{Event, Save, Claim, Done, Back, Fan, step}
use Rattle.wk_wiki_rules.specs.Lives.{opened}
use Rattle.wk_wiki_rules.specs.Tables.{revision_row, tables_of}
use Rattle.wk_wiki_rules.specs.Calls.{CallsMake, no_call, one_more}
use Rattle.wk_wiki_rules.specs.Room.{tickets_out}
use Rattle.wk_wiki_laws.specs.Kept.{IsKept}
use Rattle.wk_wiki_laws.proofs.GoodJobs.{IsKept-opened}
use Rattle.wk_wiki_laws.proofs.ReadBack.{opened-is}
use Rattle.wk_wiki_laws.proofs.Room.{out-reopened}
use Rattle.wk_life_laws.specs.Runs.{IsRun}
use Rattle.wk_life_laws.specs.Next.{new_start}
use Rattle.wk_life_laws.proofs.RunRoom.{run_room}
use Rattle.wk_life_laws.proofs.RunTickets.{run_numbers}
use Rattle.wk_feed_rules.specs.Lines.{row, start}
use Rattle.wk_feed_rules.specs.Feeds.{event_line, feed_of, rows_of_tables, start_lines}
use Rattle.wk_feed_rules.specs.Taking.{FeedSoFar, loading, running, fed, told, line_taken}
use Rattle.wk_feed_laws.specs.Fits.{CanStart, LineFits, MomentFits, NumberFits, RowFits}
use Rattle.wk_feed_laws.proofs.Events.{events-taken}
use Rattle.wk_feed_laws.proofs.Numbers.{all-append, all-map, rows-fit}
use Rattle.wk_feed_laws.proofs.Places.{rows-behind}
use Rattle.wk_feed_laws.proofs.TablesBack.{tables-back}
use Rattle.wk_feed_laws.proofs.Taken.{all_taken, all_taken-append, rows-taken, taken-fed}

-- ---- the lines of a start

-- a wiki behind its start
abbrev pub at_start : State → FeedSoFar
at_start from = running (record { from = from; events = []; state = from })

-- what begins over these tables
abbrev begun_over : StoreTables → Option FeedSoFar
begun_over tables = cond (eqb tables.version newest_version && is_none (first_broken tables)) (Some (at_start (opened tables))) None

start-taken : (from : State) → CanStart from → line_taken (loading (rows_of_tables (tables_of from))) start ≡ Some (at_start from)
start-taken from can =
    let tables = tables_of from in
    ap begun_over (tables-back tables (omega arith))
    ∙ (ap (λ o. cond (is_none o) (Some (at_start (opened tables))) None) can.good ∙ ap (λ (s : State). Some (at_start s)) can.opened)

pub start-lines-taken : (from : State) → CanStart from → all_taken (loading []) (start_lines from) ≡ Some (at_start from)
start-lines-taken from can =
    let rows = rows_of_tables (tables_of from) in
    all_taken-append (loading []) (map row rows) (start ∷ [])
    ∙ (ap (λ (o : Option FeedSoFar). option_and_then (λ next. all_taken next (start ∷ [])) o) (rows-taken rows [] (rows-behind (tables_of from) (KeepsRules-from_good (tables_of from) can.good)))
    ∙ ap (λ (o : Option FeedSoFar). option_and_then (λ next. all_taken next []) o) (start-taken from can))

-- ---- their numbers

rows-moments : (number : ℕ) (revisions : List Revision) → AllByRecursion (λ (r : Revision). NumberFits r.moment) revisions
    → AllByRecursion (λ (r : RevisionColumns). NumberFits r.rev_timestamp) (map revision_row (enumerate_from number revisions))
rows-moments number [] all = tt
rows-moments number (r ∷ revisions) all = (all.0, rows-moments (number + 1) revisions all.1)

rows-length : (number : ℕ) (revisions : List Revision) → length (map revision_row (enumerate_from number revisions)) ≡ length revisions
rows-length number [] = refl
rows-length number (r ∷ revisions) = ap (λ n. suc n) (rows-length (number + 1) revisions)

pub start-fits : (from : State) → CanStart from → AllByRecursion LineFits (start_lines from)
start-fits from can =
    let tables = tables_of from in
    let revisions = from.history.revisions in
    let few : NumberFits (length tables.revisions) = subst NumberFits (sym (rows-length 1 revisions)) can.numbers.few in
    let rows = rows-fit tables (KeepsRules-from_good tables can.good) few (rows-moments 1 revisions can.numbers.moments) in
    all-append LineFits (map row (rows_of_tables tables)) (start ∷ []) (all-map RowFits LineFits row (λ r fits. fits) (rows_of_tables tables) rows) (tt, tt)

-- ---- the numbers of events

-- a start of a feed is one of a wiki
start-kept : (from : State) → CanStart from → IsKept from
start-kept from can = subst IsKept can.opened (IsKept-opened (tables_of from) can.good)

start-none-out : (from : State) → CanStart from → tickets_out from ≡ 0
start-none-out from can = ap tickets_out (sym can.opened ∙ opened-is from (start-kept from can)) ∙ out-reopened from

run-of : (from last : State) (events : List Event) → CanStart from → CallsMake fan_pages full_limits from events last → IsRun (new_start from full_limits true) events last
run-of from last events can calls = record {
  full = record { pages = omega arith; text = omega arith };
  kept = start-kept from can;
  none_out = start-none-out from can;
  calls = calls;
  seal = tt;
}

ticket-fits : (from state : State) (events : List Event) (ticket page : ℕ) → CanStart from → CallsMake fan_pages full_limits from events state → page_held_by state.jobs ticket ≡ Some page → NumberFits ticket
ticket-fits from state events ticket page can calls held =
    let run = run-of from state events can calls in
    let within = (run_numbers (new_start from full_limits true) events state run ticket page held).1 in
    let room = run_room (new_start from full_limits true) events state run in
    omega (arith, within, room)

-- a ticket is out where a refresh is given back
held-behind : (state next : State) (o : Option ℕ) (f : ℕ → State) → option_map f o ≡ Some next → (page : ℕ) × (o ≡ Some page)
held-behind state next None f is = absurd (let e : None ≡ Some next = is in cc)
held-behind state next (Some page) f is = (page, refl)

event-fits : (from state next : State) (events : List Event) (event : Event) → CanStart from → CallsMake fan_pages full_limits from events state → step state (length events) event ≡ Some next → MomentFits event → LineFits (event_line event)
event-fits from state next events (Save title text moment) can calls stepped fits = fits
event-fits from state next events Claim can calls stepped fits = tt
event-fits from state next events (Done ticket) can calls stepped fits = let held = held-behind state next (page_held_by state.jobs ticket) _ stepped in ticket-fits from state events ticket held.0 can calls held.1
event-fits from state next events (Back ticket) can calls stepped fits = let held = held-behind state next (page_held_by state.jobs ticket) _ stepped in ticket-fits from state events ticket held.0 can calls held.1
event-fits from state next events Fan can calls stepped fits = tt

-- what holds of all holds of all but the last, and of the last
but-last : (P : Event → Type 0) (events : List Event) (event : Event) → AllByRecursion P (events ++ event ∷ []) → AllByRecursion P events × P event
but-last P [] event all = (tt, all.0)
but-last P (e ∷ events) event all = let rest = but-last P events event all.1 in ((all.0, rest.0), rest.1)

one-more-line : (events : List Event) (event : Event) → AllByRecursion LineFits (map event_line events) → LineFits (event_line event) → AllByRecursion LineFits (map event_line (events ++ event ∷ []))
one-more-line [] event all own = (own, tt)
one-more-line (e ∷ events) event all own = (all.0, one-more-line events event all.1 own)

pub events-fit : (from last : State) (events : List Event) → CanStart from → CallsMake fan_pages full_limits from events last → AllByRecursion MomentFits events → AllByRecursion LineFits (map event_line events)
events-fit from last [] can no_call fits = tt
events-fit from last events can (one_more {state = state} {events = before} {event = event} calls made stepped) fits =
    let parts = but-last MomentFits before event fits in
    one-more-line before event (events-fit from state before can calls parts.0) (event-fits from state last before event can calls stepped parts.1)

-- ---- the feed

pub feed-told : (from last : State) (events : List Event) → CanStart from → CallsMake fan_pages full_limits from events last → AllByRecursion MomentFits events
    → fed (feed_of from events) ≡ told (running (record { from = from; events = events; state = last }))
feed-told from last events can calls fits =
    taken-fed (start_lines from ++ map event_line events) 1 (loading []) (running (record { from = from; events = events; state = last }))
    (all-append LineFits (start_lines from) (map event_line events) (start-fits from can) (events-fit from last events can calls fits))
    (all_taken-append (loading []) (start_lines from) (map event_line events)
    ∙ (ap (λ (o : Option FeedSoFar). option_and_then (λ next. all_taken next (map event_line events)) o) (start-lines-taken from can) ∙ events-taken from last events calls))
