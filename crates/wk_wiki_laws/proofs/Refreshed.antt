-- A refresh that is done makes its page current, and leaves the other pages as they are.
use Rattle.std.proofs.Common.{◌≡◌, ◌≢◌, ℕ, ◌-◌, ◌≤◌, Bool, true, false, cond, eqb, not, ◌||◌, ◌&&◌, List, [], ◌∷◌, length, map, set, unwrap_or, Option, Some, None, refl, sym, ap, ◌∙◌, inl, inr, subst, arith}
use Rattle.std.specs.Prelude.{slice_get, find, option_map}
use Rattle.std.specs.List.{AllByRecursion, list_any}
use Rattle.std.proofs.lemmas.Bool.{cases_Bool, eqb-true, eqb-false, ne_eqb}
use Rattle.std.proofs.lemmas.List.{get_or-set_same, get_or-set_other}
use Rattle.std.proofs.lemmas.List.Elements.{recursion_from_All}
use Rattle.std.proofs.lemmas.Option.{unwrap_or-slice_get}
use Rattle.wk_page_rules.specs.History.{Page}
use Rattle.wk_page_rules.specs.PageRows.{PageRows, no_rows}
use Rattle.wk_wiki_rules.specs.Jobs.{RefreshEntry, JobLists, has_refresh, is_held_by, page_held_by, refresh_dropped, pages_of}
use Rattle.wk_wiki_rules.specs.Covers.{is_covered, fan_covers}
use Rattle.wk_wiki_rules.proofs.JobLemmas.{has_refresh-dropped}
use Rattle.wk_view_rules.specs.Rows.{rows}
use Rattle.wk_wiki_rules.specs.States.{State, page_at, title_at, stored_at, world_of}
use Rattle.wk_wiki_rules.specs.Events.{Done, with_refreshed, step_by}
use Rattle.wk_wiki_rules.specs.Soundness.{IsSound, IsCurrent}
use Rattle.wk_wiki_laws.specs.WellFormed.{IsWellFormed}

-- ---- the page whose refresh it is

held-of : (P : ℕ → Type 0) (jobs : List RefreshEntry) (ticket page : ℕ) → AllByRecursion P (map (λ job. job.page) jobs) → option_map (λ job. job.page) (find (is_held_by ticket) jobs) ≡ Some page → P page
held-of P [] ticket page all there = absurd (let e : None ≡ Some page = there in cc)
held-of P (job ∷ jobs) ticket page all there = elim (cases_Bool (is_held_by ticket job)) [
  | inl held ↦
      let found : Some job.page ≡ Some page = rw held at there in
      let same : job.page ≡ page = cc in rw (← same) all.0
  | inr other ↦ held-of P jobs ticket page all.1 (rw other at there)
]

pub held-within : (state : State) (ticket page : ℕ) → IsWellFormed state → page_held_by state.jobs ticket ≡ Some page → (1 ≤ page) × (page ≤ length state.stored)
held-within state ticket page formed held =
    let P = λ (number : ℕ). (1 ≤ number) × (number ≤ length state.history.pages) in
    let within = held-of P state.jobs.refreshes ticket page (recursion_from_All P (pages_of state.jobs) formed.jobs) held in
    let same = formed.stored in
    (within.0, omega (arith, within.1, same))

-- ---- what is stored

set-own : (stored : List PageRows) (held : ℕ) (new : PageRows) → (1 ≤ held) × (held ≤ length stored) → cond (eqb held 0) no_rows (unwrap_or (slice_get (set stored (held - 1) new) (held - 1)) no_rows) ≡ new
set-own stored held new within =
    let positive : eqb held 0 ≡ false = ne_eqb held 0 (λ none. omega (arith, within.0)) in
    rw (positive, unwrap_or-slice_get (set stored (held - 1) new) (held - 1) no_rows)
    (get_or-set_same stored (held - 1) new no_rows (omega (arith, within.0, within.1)))

stored-own : (state : State) (held : ℕ) → (1 ≤ held) × (held ≤ length state.stored) → stored_at (with_refreshed state held) held ≡ rows (world_of state) (title_at state.history held)
stored-own state held within = set-own state.stored held (rows (world_of state) (title_at state.history held)) within

stored-other : (state : State) (held number : ℕ) → 1 ≤ held → number ≢ held → stored_at (with_refreshed state held) number ≡ stored_at state number
stored-other state held number positive apart = elim (cases_Bool (eqb number 0)) [
  | inl none ↦ rw none refl
  | inr more ↦
      let new = rows (world_of state) (title_at state.history held) in
      let other : (number - 1) ≢ (held - 1) = λ same. apart (let some = eqb-false number 0 more in omega arith) in
      rw (more, unwrap_or-slice_get (set state.stored (held - 1) new) (number - 1) no_rows, unwrap_or-slice_get state.stored (number - 1) no_rows)
      (get_or-set_other state.stored (held - 1) (number - 1) new no_rows other)
]

-- ---- what is covered

and-true : (b : Bool) → (b && true) ≡ b
and-true true = refl
and-true false = refl

refresh-other : (lists : JobLists) (held number : ℕ) → number ≢ held → has_refresh (refresh_dropped lists held) number ≡ has_refresh lists number
refresh-other lists held number apart =
    has_refresh-dropped lists held number ∙ (ap (λ b. has_refresh lists number && not b) (ne_eqb number held apart) ∙ and-true (has_refresh lists number))

covered-other : (state : State) (held number : ℕ) → 1 ≤ held → number ≢ held → is_covered (with_refreshed state held).jobs number (stored_at (with_refreshed state held) number) ≡ is_covered state.jobs number (stored_at state number)
covered-other state held number positive apart =
    ap (is_covered (refresh_dropped state.jobs held) number) (stored-other state held number positive apart)
    ∙ ap (λ b. b || list_any (fan_covers number (stored_at state number)) state.jobs.fans) (refresh-other state.jobs held number apart)

-- ---- the step

current-own : (state : State) (held : ℕ) (page : Page) → (1 ≤ held) × (held ≤ length state.stored) → page_at state.history held ≡ Some page → IsCurrent (with_refreshed state held) held page
current-own state held page within there =
    let title : title_at state.history held ≡ page.title = rw there refl in
    stored-own state held within ∙ ap (rows (world_of state)) title

sound-refreshed : (state : State) (held : ℕ) → (1 ≤ held) × (held ≤ length state.stored) → IsSound state → IsSound (with_refreshed state held)
sound-refreshed state held within sound number page there = elim (cases_Bool (eqb number held)) [
  | inl same ↦
      let is : number ≡ held = eqb-true number held same in
      inl (subst (λ n. IsCurrent (with_refreshed state held) n page) (sym is)
      (current-own state held page within (subst (λ n. page_at state.history n ≡ Some page) is there)))
  | inr other ↦
      let apart : number ≢ held = eqb-false number held other in
      elim (sound number page there) [
        | inl current ↦ inl (stored-other state held number within.0 apart ∙ current)
        | inr covered ↦ inr (covered-other state held number within.0 apart ∙ covered)
      ]
]

-- the state after a refresh is done, by the page that the ticket holds
pub done-by : (P : State → Type 0) (most : ℕ) (state next : State) (journal ticket held : ℕ) → page_held_by state.jobs ticket ≡ Some held → step_by most state journal (Done ticket) ≡ Some next → P (with_refreshed state held) → P next
done-by P most state next journal ticket held holds done all =
    let is : Some (with_refreshed state held) ≡ Some next = rw holds at done in
    let same : with_refreshed state held ≡ next = cc in rw (← same) all

pub IsCurrent-done : (most : ℕ) (state next : State) (journal ticket number : ℕ) (page : Page) → IsWellFormed state → page_held_by state.jobs ticket ≡ Some number → page_at state.history number ≡ Some page → step_by most state journal (Done ticket) ≡ Some next → IsCurrent next number page
IsCurrent-done most state next journal ticket number page formed holds there done =
    done-by (λ after. IsCurrent after number page) most state next journal ticket number holds done
    (current-own state number page (held-within state ticket number formed holds) there)

pub stored-done : (most : ℕ) (state next : State) (journal ticket held number : ℕ) → IsWellFormed state → page_held_by state.jobs ticket ≡ Some held → number ≢ held → step_by most state journal (Done ticket) ≡ Some next → stored_at next number ≡ stored_at state number
stored-done most state next journal ticket held number formed holds apart done =
    done-by (λ after. stored_at after number ≡ stored_at state number) most state next journal ticket held holds done
    (stored-other state held number (held-within state ticket held formed holds).0 apart)

pub covered-done : (most : ℕ) (state next : State) (journal ticket held number : ℕ) → IsWellFormed state → page_held_by state.jobs ticket ≡ Some held → number ≢ held → step_by most state journal (Done ticket) ≡ Some next → is_covered next.jobs number (stored_at next number) ≡ is_covered state.jobs number (stored_at state number)
covered-done most state next journal ticket held number formed holds apart done =
    done-by (λ after. is_covered after.jobs number (stored_at after number) ≡ is_covered state.jobs number (stored_at state number)) most state next journal ticket held holds done
    (covered-other state held number (held-within state ticket held formed holds).0 apart)

pub IsSound-done : (most : ℕ) (state next : State) (journal ticket : ℕ) → IsWellFormed state → step_by most state journal (Done ticket) ≡ Some next → IsSound state → IsSound next
IsSound-done most state next journal ticket formed done sound = by (page_held_by state.jobs ticket) refl done
  where
    by : (o : Option ℕ) → page_held_by state.jobs ticket ≡ o → option_map (λ page. with_refreshed state page) o ≡ Some next → IsSound next
    by None none is = absurd (let e : None ≡ Some next = is in cc)
    by (Some held) holds is =
        done-by IsSound most state next journal ticket held holds done (sound-refreshed state held (held-within state ticket held formed holds) sound)
