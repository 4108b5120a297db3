-- What a wiki keeps: how it begins, and what each event and a seal make of it.
use Rattle.std.proofs.Common.{◌≡◌, Bool, ℕ, ◌+◌, true, false, eqb, List, [], ◌∷◌, ◌++◌, length, drop, Option, Some, None, refl, sym, ap, subst, arith}
use Rattle.std.specs.Prelude.{All, option_map, if◌then◌else◌}
use Rattle.std.specs.List.{list_any}
use Rattle.std.proofs.lemmas.List.Elements.{All-from_recursion}
use Rattle.wk_text_rules.specs.Titles.{PageTitle}
use Rattle.wk_page_rules.specs.History.{next_revision}
use Rattle.wk_page_rules.specs.Verdict.{EditAsked, MostHeld, accept}
use Rattle.wk_table_rules.specs.Rows.{StoreTables}
use Rattle.wk_table_rules.specs.GoodStore.{IsGood}
use Rattle.wk_wiki_rules.specs.Jobs.{JobLists, claimed_by, first_queued, given_back, page_held_by}
use Rattle.wk_wiki_rules.specs.Steps.{after_fan, fan_pages}
use Rattle.wk_wiki_rules.specs.States.{State, no_state}
use Rattle.wk_wiki_rules.specs.Events.{Event, Save, Claim, Done, Back, Fan, step, with_jobs, with_refreshed, with_saved}
use Rattle.wk_wiki_rules.specs.Lives.{all_refreshed, opened, reopened}
use Rattle.wk_wiki_rules.specs.Tables.{state_of}
use Rattle.wk_wiki_rules.specs.Verdicts.{verdict_in}
use Rattle.wk_wiki_laws.specs.Kept.{IsKept}
use Rattle.wk_wiki_laws.specs.Reached.{IsWithinFull}
use Rattle.wk_wiki_laws.proofs.GoodJobs.{IsKept-opened}
use Rattle.wk_wiki_laws.proofs.KeptStates.{IsKept-none, IsKept-reopened}
use Rattle.wk_wiki_rules.specs.Calls.{IsMade, by_save, by_claim, by_finish, by_give_back, by_fan}
use Rattle.wk_wiki_rules.specs.Entries.{is_save}
use Rattle.wk_wiki_rules.specs.Room.{HasRoom, is_claim_refused, is_fan_refused, tickets_out}
use Rattle.wk_wiki_rules.specs.Starts.{Start}
use Rattle.wk_wiki_rules.specs.declared.Entry.{Entry}
use Rattle.wk_wiki_rules.specs.declared.Entry.TheVariants as entry
use Rattle.wk_wiki_laws.proofs.Room.{out-reopened}
use Rattle.wk_wiki_laws.proofs.SealedHistory.{sealed-now}
use Rattle.wk_life_laws.specs.Standing.{EntryStands}
use Rattle.wk_life_laws.proofs.Accepted.{save-stepped}
use Rattle.wk_life_laws.proofs.EntriesBack.{all-stand, count-standing, events-stepped}
use Rattle.wk_life_laws.proofs.Told.{no_fewer-stepped, told-now, told-stepped}
use Rattle.wk_life_laws.specs.Lives.{Life, IsLife, journal_of, start_of}
use Rattle.wk_life_laws.specs.Next.{Begins, IsNext, begun, new_start, with_entry, with_event, with_seal}
use Rattle.wk_life_laws.specs.Runs.{IsRun}
use Rattle.wk_life_laws.proofs.RunRoom.{run_room}
use Rattle.wk_life_laws.proofs.RunFacts.{run_begun, run_kept, run_next}

-- ---- entries

-- there are as many events as entries
pub counted_life : (life : Life) → IsLife life → length (journal_of life) ≡ length life.entries
counted_life life is = count-standing life.state life.entries is.stand

room-life : (life : Life) → IsRun (start_of life) (journal_of life) life.state → All (EntryStands life.state.history) life.entries → HasRoom life.limits life.state (length life.entries)
room-life life run stand = subst (HasRoom life.limits life.state) (count-standing life.state life.entries stand) (run_room (start_of life) (journal_of life) life.state run)

-- ---- the beginning

pub begun_life : (state : State) (limits : MostHeld) (whole : Bool) → IsWithinFull limits → IsKept state → tickets_out state ≡ 0 → Begins (begun state limits whole) (new_start state limits whole)
begun_life state limits whole full kept none =
    let start : start_of (begun state limits whole) ≡ new_start state limits whole = ap (λ s. new_start s limits whole) (told-now state) in
    record {
      is = record {
        run = subst (λ (s : Start). IsRun s [] state) (sym start) (run_begun state limits whole full kept none);
        revisions = omega arith;
        pages = omega arith;
        stand = All-from_recursion (EntryStands state.history) [] tt;
        room = omega (arith, none);
      };
      start = start;
      journal = refl;
    }

pub empty_life : (limits : MostHeld) (whole : Bool) → IsWithinFull limits → Begins (begun no_state limits whole) (new_start no_state limits whole)
empty_life limits whole full = begun_life no_state limits whole full IsKept-none refl

none-out-opened : (tables : StoreTables) → tickets_out (opened tables) ≡ 0
none-out-opened tables = out-reopened (if eqb tables.version 1 then all_refreshed (state_of tables) else state_of tables)

pub opened_life : (tables : StoreTables) (limits : MostHeld) (whole : Bool) → IsWithinFull limits → IsGood tables → Begins (begun (opened tables) limits whole) (new_start (opened tables) limits whole)
opened_life tables limits whole full good = begun_life (opened tables) limits whole full (IsKept-opened tables good) (none-out-opened tables)

pub reopened_life : (state : State) (limits : MostHeld) (whole : Bool) → IsWithinFull limits → IsKept state → Begins (begun (reopened state) limits whole) (new_start (reopened state) limits whole)
reopened_life state limits whole full kept = begun_life (reopened state) limits whole full (IsKept-reopened state kept) (out-reopened state)

pub renewed_life : (life : Life) → IsLife life → Begins (begun (reopened life.state) life.limits life.whole) (new_start (reopened life.state) life.limits life.whole)
renewed_life life is = reopened_life life.state life.limits life.whole is.run.full (run_kept (start_of life) (journal_of life) life.state is.run)

-- ---- an event

pub next_life : (life : Life) (event : Event) (next : State) → IsLife life → IsMade life.limits life.state (length (journal_of life)) event → (is_save event ≡ true → life.sealed ≡ None)
    → step life.state (length (journal_of life)) event ≡ Some next → IsNext life event (with_event life event next)
next_life life event next is made may done =
    let point = length (journal_of life) in
    let told = told-stepped fan_pages life.kept life.state next point event is.revisions is.pages done in
    let start : start_of (with_event life event next) ≡ start_of life = ap (λ (s : State). let whole : Start = record { state = s; limits = life.limits; whole = life.whole; tells = false; failed = None; sealed = life.sealed } in whole) told in
    let journal = events-stepped fan_pages life.state next point event life.entries is.stand done in
    let goes_on = run_next (start_of life) (journal_of life) life.state next event is.run made may done in
    let run = subst (λ (s : Start). IsRun s (journal_of (with_event life event next)) next) (sym start) (subst (λ (events : List Event). IsRun (start_of life) events next) (sym journal) goes_on) in
    let stand = all-stand fan_pages life.state next point event life.entries is.stand done in
    let more = no_fewer-stepped fan_pages life.state next point event done in
    let revisions = is.revisions in
    let pages = is.pages in
    let more_revisions = more.0 in
    let more_pages = more.1 in
    record {
      is = record {
        run = run;
        revisions = omega (arith, revisions, more_revisions);
        pages = omega (arith, pages, more_pages);
        stand = stand;
        room = room-life (with_event life event next) run stand;
      };
      start = start;
      journal = journal;
      done = done;
    }

pub next_with : (life : Life) (event : Event) (entry : Entry) (entries : List Entry) (made state : State) → IsNext life event (with_entry life entry made) → entries ≡ life.entries ++ entry ∷ [] → state ≡ made
    → IsNext life event (record life { entries = entries; state = state })
next_with life event entry entries made state next listed is =
    subst (λ (s : State). IsNext life event (record life { entries = entries; state = s })) (sym is)
    (subst (λ (es : List Entry). IsNext life event (record life { entries = es; state = made })) (sym listed) next)

-- ---- each kind of event

module _ (life : Life) (is : IsLife life) where
  saved-at : (moment : ℕ) (edit : EditAsked) (title : PageTitle) (text : Option (List ℕ)) → life.sealed ≡ None → verdict_in life.limits life.state (length (journal_of life)) edit ≡ accept title text
      → IsNext life (Save title text moment) (with_entry life (entry.Save (next_revision life.state.history)) (with_saved life.state title text moment))
  saved-at moment edit title text free accepted =
      next_life life (Save title text moment) (with_saved life.state title text moment) is (by_save edit accepted) (λ _. free)
      (save-stepped fan_pages life.limits life.state (length (journal_of life)) moment edit title text accepted)

  claimed-at : (page : ℕ) → is_claim_refused life.limits life.state (length (journal_of life)) ≡ false → first_queued life.state.jobs ≡ Some page
      → IsNext life Claim (with_entry life entry.Claim (with_jobs life.state (claimed_by life.state.jobs (length (journal_of life) + 1))))
  claimed-at page free first =
      next_life life Claim (with_jobs life.state (claimed_by life.state.jobs (length (journal_of life) + 1))) is (by_claim free) (λ (e : false ≡ true). absurd cc)
      (ap (option_map (λ _. with_jobs life.state (claimed_by life.state.jobs (length (journal_of life) + 1)))) first)

  fanned-at : (jobs : JobLists) → is_fan_refused life.limits life.state (length (journal_of life)) ≡ false → after_fan life.state.stored fan_pages life.state.jobs ≡ Some jobs
      → IsNext life Fan (with_entry life entry.Fan (with_jobs life.state jobs))
  fanned-at jobs free after =
      next_life life Fan (with_jobs life.state jobs) is (by_fan free) (λ (e : false ≡ true). absurd cc) (ap (option_map (λ lists. with_jobs life.state lists)) after)

pub saved_life : (life : Life) (point moment : ℕ) (edit : EditAsked) (title : PageTitle) (text : Option (List ℕ)) → IsLife life → length (journal_of life) ≡ point → life.sealed ≡ None → verdict_in life.limits life.state point edit ≡ accept title text
    → IsNext life (Save title text moment) (with_entry life (entry.Save (next_revision life.state.history)) (with_saved life.state title text moment))
saved_life life point moment edit title text is at free accepted =
    saved-at life is moment edit title text free (subst (λ n. verdict_in life.limits life.state n edit ≡ accept title text) (sym at) accepted)

pub claimed_life : (life : Life) (point page : ℕ) → IsLife life → length (journal_of life) ≡ point → is_claim_refused life.limits life.state point ≡ false → first_queued life.state.jobs ≡ Some page
    → IsNext life Claim (with_entry life entry.Claim (with_jobs life.state (claimed_by life.state.jobs (point + 1))))
claimed_life life point page is at free first =
    subst (λ n. is_claim_refused life.limits life.state n ≡ false → IsNext life Claim (with_entry life entry.Claim (with_jobs life.state (claimed_by life.state.jobs (n + 1))))) at
    (λ room. claimed-at life is page room first) free

pub done_life : (life : Life) (ticket page : ℕ) → IsLife life → page_held_by life.state.jobs ticket ≡ Some page → IsNext life (Done ticket) (with_entry life (entry.Done ticket) (with_refreshed life.state page))
done_life life ticket page is holds =
    next_life life (Done ticket) (with_refreshed life.state page) is (by_finish page holds) (λ (e : false ≡ true). absurd cc) (ap (option_map (λ n. with_refreshed life.state n)) holds)

pub back_life : (life : Life) (ticket page : ℕ) → IsLife life → page_held_by life.state.jobs ticket ≡ Some page
    → IsNext life (Back ticket) (with_entry life (entry.Back ticket) (with_jobs life.state (given_back life.state.jobs page)))
back_life life ticket page is holds =
    next_life life (Back ticket) (with_jobs life.state (given_back life.state.jobs page)) is by_give_back (λ (e : false ≡ true). absurd cc)
    (ap (option_map (λ n. with_jobs life.state (given_back life.state.jobs n))) holds)

pub fanned_life : (life : Life) (point : ℕ) (jobs : JobLists) → IsLife life → length (journal_of life) ≡ point → is_fan_refused life.limits life.state point ≡ false → after_fan life.state.stored fan_pages life.state.jobs ≡ Some jobs
    → IsNext life Fan (with_entry life entry.Fan (with_jobs life.state jobs))
fanned_life life point jobs is at free after = fanned-at life is jobs (subst (λ n. is_fan_refused life.limits life.state n ≡ false) (sym at) free) after

-- ---- a seal

pub sealed_life : (life : Life) (point : ℕ) → IsLife life → length (journal_of life) ≡ point → IsLife (with_seal life point)
sealed_life life point is at = record {
  run = record {
    full = is.run.full;
    kept = is.run.kept;
    none_out = is.run.none_out;
    calls = is.run.calls;
    seal = subst (λ n. list_any is_save (drop n (journal_of life)) ≡ false) at (sealed-now (journal_of life));
  };
  revisions = is.revisions;
  pages = is.pages;
  stand = is.stand;
  room = is.room;
}
