-- What any lines tell is a wiki that was opened over good tables, and events that calls make from there.
use Rattle.std.proofs.Common.{◌≡◌, ℕ, ◌+◌, Bool, true, false, cond, ◌&&◌, eqb, List, [], ◌∷◌, ◌++◌, length, bytes_eq, Option, Some, None, is_none, option_and_then, option_map, refl, sym, subst}
use Rattle.std.specs.Prelude.{⊤}
use Rattle.std.proofs.lemmas.Bool.{and_parts, eqb-true}
use Rattle.wk_text_rules.specs.Titles.{shown}
use Rattle.wk_page_rules.specs.Verdict.{Verdict, accept, full_limits, no_change, refuse}
use Rattle.wk_table_rules.specs.Rows.{StoreTables, newest_version}
use Rattle.wk_table_rules.specs.GoodStore.{first_broken}
use Rattle.wk_table_rules.specs.declared.BadStore.{BadStore}
use Rattle.wk_wiki_rules.specs.Jobs.{page_held_by}
use Rattle.wk_wiki_rules.specs.States.{State}
use Rattle.wk_wiki_rules.specs.Events.{Event, Save, Claim, Done, Back, Fan, step}
use Rattle.wk_wiki_rules.specs.Lives.{opened}
use Rattle.wk_wiki_rules.specs.Verdicts.{verdict_in}
use Rattle.wk_wiki_rules.specs.Room.{is_claim_refused, is_fan_refused}
use Rattle.wk_wiki_rules.specs.Calls.{IsMade, by_save, by_claim, by_finish, by_give_back, by_fan, no_call, one_more}
use Rattle.wk_feed_rules.specs.Lines.{TableRow, FeedLine, row, start, save, claim, done, back, fan}
use Rattle.wk_feed_rules.specs.Reading.{said}
use Rattle.wk_feed_rules.specs.Taking.{FeedRun, FeedSoFar, loading, running, Fed, told, bad_line, begun, event_of_line, fed_from, is_behind, is_same, line_taken, plain_save, tables_of_rows, taken, that_very_save, with_event}
use Rattle.wk_feed_laws.specs.Fits.{WasMade}

-- what holds of what was told so far
abbrev pub SoFarMade : FeedSoFar → Type 0
SoFarMade (loading rows) = ⊤
SoFarMade (running run) = WasMade run

-- ---- an event

-- the save of a verdict, where it is one
save-made : (state : State) (journal : ℕ) (title : List ℕ) (text : Option (List ℕ)) (moment : ℕ) (event : Event) (v : Verdict) → verdict_in full_limits state journal (plain_save title text) ≡ v
    → that_very_save title text moment v ≡ Some event → IsMade full_limits state journal event
save-made state journal title text moment event (refuse refusal) judged is = absurd (let e : None ≡ Some event = is in cc)
save-made state journal title text moment event (no_change named) judged is = absurd (let e : None ≡ Some event = is in cc)
save-made state journal title text moment event (accept named kept) judged is = by (bytes_eq (shown named) title && is_same kept text) is
  where
    by : (b : Bool) → cond b (Some (Save named kept moment)) None ≡ Some event → IsMade full_limits state journal event
    by true e = let one : Some (Save named kept moment) ≡ Some event = e in let same : Save named kept moment ≡ event = cc in subst (IsMade full_limits state journal) same (by_save (plain_save title text) judged)
    by false e = absurd (let none : None ≡ Some event = e in cc)

-- an event that has room
roomy : (state : State) (journal : ℕ) (made event : Event) (refused : Bool) → cond refused None (Some made) ≡ Some event → (refused ≡ false → IsMade full_limits state journal made) → IsMade full_limits state journal event
roomy state journal made event true is has = absurd (let e : None ≡ Some event = is in cc)
roomy state journal made event false is has = let e : Some made ≡ Some event = is in let same : made ≡ event = cc in subst (IsMade full_limits state journal) same (has refl)

held : (o : Option ℕ) (f : ℕ → State) (next : State) → option_map f o ≡ Some next → (page : ℕ) × (o ≡ Some page)
held None f next is = absurd (let e : None ≡ Some next = is in cc)
held (Some page) f next is = (page, refl)

line-made : (state next : State) (journal : ℕ) (line : FeedLine) (event : Event) → event_of_line state journal line ≡ Some event → step state journal event ≡ Some next → IsMade full_limits state journal event
line-made state next journal (row r) event is stepped = absurd (let e : None ≡ Some event = is in cc)
line-made state next journal start event is stepped = absurd (let e : None ≡ Some event = is in cc)
line-made state next journal (save title text moment) event is stepped = save-made state journal title text moment event (verdict_in full_limits state journal (plain_save title text)) refl is
line-made state next journal claim event is stepped = roomy state journal Claim event (is_claim_refused full_limits state journal) is by_claim
line-made state next journal (done ticket) event is stepped =
    let one : Some (Done ticket) ≡ Some event = is in
    let same : Done ticket ≡ event = cc in
    let out : step state journal (Done ticket) ≡ Some next = subst (λ (e : Event). step state journal e ≡ Some next) (sym same) stepped in
    let page = held (page_held_by state.jobs ticket) _ next out in
    subst (IsMade full_limits state journal) same (by_finish page.0 page.1)
line-made state next journal (back ticket) event is stepped =
    let one : Some (Back ticket) ≡ Some event = is in let same : Back ticket ≡ event = cc in subst (IsMade full_limits state journal) same by_give_back
line-made state next journal fan event is stepped = roomy state journal Fan event (is_fan_refused full_limits state journal) is by_fan

run-more : (run : FeedRun) (line : FeedLine) (last : FeedSoFar) → WasMade run → line_taken (running run) line ≡ Some last → SoFarMade last
run-more run line last made is = by_event (event_of_line run.state (length run.events) line) refl is
  where
    with_step : (event : Event) → event_of_line run.state (length run.events) line ≡ Some event → (o : Option State) → step run.state (length run.events) event ≡ o
        → option_map (λ (next : State). running (record { from = run.from; events = run.events ++ event ∷ []; state = next })) o ≡ Some last → SoFarMade last
    with_step event of_line None stepped e = absurd (let none : None ≡ Some last = e in cc)
    with_step event of_line (Some next) stepped e =
        let one : Some (running (record { from = run.from; events = run.events ++ event ∷ []; state = next })) ≡ Some last = e in
        let same : running (record { from = run.from; events = run.events ++ event ∷ []; state = next }) ≡ last = cc in
        subst SoFarMade same (record {
          tables = made.tables;
          good = made.good;
          newest = made.newest;
          from = made.from;
          calls = one_more made.calls (line-made run.state next (length run.events) line event of_line stepped) stepped;
        })

    by_event : (o : Option Event) → event_of_line run.state (length run.events) line ≡ o → option_and_then (with_event run) o ≡ Some last → SoFarMade last
    by_event None of_line e = absurd (let none : None ≡ Some last = e in cc)
    by_event (Some event) of_line e = with_step event of_line (step run.state (length run.events) event) refl e

-- ---- a row, and the start

row-more : (rows : List TableRow) (new : TableRow) (last : FeedSoFar) (b : Bool) → cond b (Some (loading (rows ++ new ∷ []))) None ≡ Some last → SoFarMade last
row-more rows new last true is = let one : Some (loading (rows ++ new ∷ [])) ≡ Some last = is in let same : loading (rows ++ new ∷ []) ≡ last = cc in subst SoFarMade same tt
row-more rows new last false is = absurd (let none : None ≡ Some last = is in cc)

no-rule : (o : Option BadStore) → is_none o ≡ true → o ≡ None
no-rule None is = refl
no-rule (Some bad) is = absurd (let e : false ≡ true = is in cc)

-- a wiki that was opened over these tables
abbrev opened_over : StoreTables → FeedSoFar
opened_over tables = running (record { from = opened tables; events = []; state = opened tables })

start-more : (rows : List TableRow) (last : FeedSoFar) → begun rows ≡ Some last → SoFarMade last
start-more rows last is = by (tables_of_rows rows) (eqb (tables_of_rows rows).version newest_version && is_none (first_broken (tables_of_rows rows))) refl is
  where
    by : (tables : StoreTables) (b : Bool) → (eqb tables.version newest_version && is_none (first_broken tables)) ≡ b → cond b (Some (opened_over tables)) None ≡ Some last → SoFarMade last
    by tables false tests e = absurd (let none : None ≡ Some last = e in cc)
    by tables true tests e =
        let parts = and_parts (eqb tables.version newest_version) (is_none (first_broken tables)) tests in
        let one : Some (opened_over tables) ≡ Some last = e in
        let same : opened_over tables ≡ last = cc in
        subst SoFarMade same (record {
          tables = tables;
          good = no-rule (first_broken tables) parts.1;
          newest = eqb-true tables.version newest_version parts.0;
          from = refl;
          calls = no_call;
        })

-- ---- lines

line-more : (so_far last : FeedSoFar) (line : FeedLine) → SoFarMade so_far → line_taken so_far line ≡ Some last → SoFarMade last
line-more (loading rows) last (row new) made is = row-more rows new last (is_behind rows new) is
line-more (loading rows) last start made is = start-more rows last is
line-more (loading rows) last (save title text moment) made is = absurd (let none : None ≡ Some last = is in cc)
line-more (loading rows) last claim made is = absurd (let none : None ≡ Some last = is in cc)
line-more (loading rows) last (done ticket) made is = absurd (let none : None ≡ Some last = is in cc)
line-more (loading rows) last (back ticket) made is = absurd (let none : None ≡ Some last = is in cc)
line-more (loading rows) last fan made is = absurd (let none : None ≡ Some last = is in cc)
line-more (running run) last line made is = run-more run line last made is

pub taken-made : (so_far last : FeedSoFar) (bytes : List ℕ) → SoFarMade so_far → taken so_far bytes ≡ Some last → SoFarMade last
taken-made so_far last bytes made is = by (said bytes) is
  where
    by : (o : Option FeedLine) → option_and_then (line_taken so_far) o ≡ Some last → SoFarMade last
    by None e = absurd (let none : None ≡ Some last = e in cc)
    by (Some line) e = line-more so_far last line made e

fed-next : (lines : List (List ℕ)) (number : ℕ) (so_far : FeedSoFar) (bytes : List ℕ) (run : FeedRun) → SoFarMade so_far → ((next : FeedSoFar) → SoFarMade next → fed_from (number + 1) next lines ≡ told (running run) → WasMade run)
    → (o : Option FeedSoFar) → taken so_far bytes ≡ o → (elim o as (λ p. Fed) [ None ↦ bad_line number | Some next ↦ fed_from (number + 1) next lines ]) ≡ told (running run) → WasMade run
fed-next lines number so_far bytes run made each None taking e = absurd (let none : bad_line number ≡ told (running run) = e in cc)
fed-next lines number so_far bytes run made each (Some next) taking e = each next (taken-made so_far next bytes made taking) e

pub fed-made : (lines : List (List ℕ)) (number : ℕ) (so_far : FeedSoFar) (run : FeedRun) → SoFarMade so_far → fed_from number so_far lines ≡ told (running run) → WasMade run
fed-made [] number so_far run made is = let e : told so_far ≡ told (running run) = is in let same : so_far ≡ running run = cc in subst SoFarMade same made
fed-made (bytes ∷ lines) number so_far run made is = fed-next lines number so_far bytes run made (λ next was e. fed-made lines (number + 1) next run was e) (taken so_far bytes) refl is
