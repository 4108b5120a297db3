-- Events and restarts keep a state well formed.
use Rattle.std.proofs.Common.{◌≡◌, ℕ, zero, suc, ◌+◌, ◌-◌, ◌≤◌, ◌<◌, Bool, true, false, cond, eqb, ltb, not, ◌||◌, List, [], ◌∷◌, ◌++◌, length, map, take, unwrap_or, Option, Some, None, refl, sym, ap, ◌∙◌, inl, inr, subst, arith}
use Rattle.std.specs.Prelude.{slice_get, option_map, position, is_some}
use Rattle.std.specs.List.{All, AllByRecursion, IsDistinct, filter, enumerate_from, list_any, position_or_len}
use Rattle.std.proofs.lemmas.Bool.{cases_Bool, cond_both, or_parts, ltb-true, ltb-false, lt-ltb, le-ltb}
use Rattle.std.proofs.lemmas.List.{length-append, length-set, map-append}
use Rattle.std.proofs.lemmas.List.Elements.{All-from_recursion, recursion_from_All}
use Rattle.std.proofs.lemmas.List.Sorted.{All-permutation}
use Rattle.wk_text_rules.specs.Titles.{PageTitle, title_eq}
use Rattle.wk_page_rules.specs.History.{History, Page, page_exists, with_current, next_revision, saved, can_save, page_to_save}
use Rattle.wk_page_rules.specs.declared.Reach.{Reach}
use Rattle.wk_page_rules.specs.PageRows.{PageRows, no_rows}
use Rattle.wk_wiki_rules.specs.Jobs.{RefreshEntry, FanEntry, JobLists, has_refresh, has_fan, fan_set, first_queued, page_held_by, refresh_queued, refresh_dropped, claimed_by, given_back, pages_of}
use Rattle.wk_wiki_rules.specs.Steps.{all_queued, after_serving, next_served, after_save, reach_of_save, reopened_jobs}
use Rattle.wk_wiki_rules.specs.Users.{some_page_names, users}
use Rattle.wk_wiki_rules.proofs.Lists.{IsDistinct-push, list_any-map}
use Rattle.wk_wiki_rules.proofs.JobLemmas.{pages-claimed, pages-given_back, pages-reopened, pages-queued, pages-fan_set}
use Rattle.wk_view_rules.specs.Rows.{rows}
use Rattle.wk_wiki_rules.specs.States.{State, no_state, title_at, world_of}
use Rattle.wk_wiki_rules.specs.Events.{Event, Save, Claim, Done, Back, Fan, stored_with, with_saved, with_refreshed, with_jobs, step_by}
use Rattle.wk_wiki_rules.specs.Lives.{reopened}
use Rattle.wk_wiki_laws.specs.WellFormed.{IsWellFormed}
use Rattle.wk_wiki_laws.proofs.Served.{found, uses, users-is}
use Rattle.wk_wiki_laws.proofs.Sound.{given}
use Rattle.wk_wiki_laws.proofs.SavedHistory.{Stands, text-kept, text-own}
use Rattle.wk_wiki_laws.proofs.Saved.{pages-saved}

abbrev pub Within : ℕ → ℕ → Type 0
Within pages page = (1 ≤ page) × (page ≤ pages)

pub IsWellFormed-none : IsWellFormed no_state
unfolding IsDistinct
IsWellFormed-none = record {
  stored = refl;
  jobs = All-from_recursion (Within 0) [] tt;
  titles = tt;
  texts = All-from_recursion (λ (page : Page). Stands no_state.history page.current) [] tt;
}

-- ---- jobs alone

pub formed-jobs : (state : State) (lists : JobLists) → IsWellFormed state → All (Within (length state.history.pages)) (pages_of lists) → IsWellFormed (with_jobs state lists)
formed-jobs state lists formed all = record { stored = formed.stored; jobs = all; titles = formed.titles; texts = formed.texts }

pub queued-within : (P : ℕ → Type 0) (lists : JobLists) (page : ℕ) → P page → AllByRecursion P (pages_of lists) → AllByRecursion P (pages_of (refresh_queued lists page))
queued-within P lists page holds all = elim (cases_Bool (has_refresh lists page)) [
  | inl there ↦ rw there all
  | inr none ↦ rw (pages-queued lists page none) (push (pages_of lists) all)
]
  where
    push : (pages : List ℕ) → AllByRecursion P pages → AllByRecursion P (pages ++ page ∷ [])
    push [] every = (holds, tt)
    push (first ∷ pages) every = (every.0, push pages every.1)

pub all_queued-within : (P : ℕ → Type 0) (lists : JobLists) (pages : List ℕ) → AllByRecursion P pages → AllByRecursion P (pages_of lists) → AllByRecursion P (pages_of (all_queued lists pages))
all_queued-within P lists [] holds all = all
all_queued-within P lists (page ∷ pages) holds all = all_queued-within P (refresh_queued lists page) pages holds.1 (queued-within P lists page holds.0 all)

-- ---- what a fan serves

found-within : (p : ℕ × PageRows → Bool) (most a : ℕ) (stored : List PageRows) → 1 ≤ a → AllByRecursion (λ page. (1 ≤ page) × (page < a + length stored)) (found p a stored)
found-within p most a [] positive = tt
found-within p most a (links ∷ stored) positive =
    let later = wider (found p (a + 1) stored) (found-within p most (a + 1) stored (omega (arith, positive))) in
    elim (p (a, links)) as (λ b. AllByRecursion (λ page. (1 ≤ page) × (page < a + length (links ∷ stored))) (map (λ page. page.0) (cond b ((a, links) ∷ filter p (enumerate_from (a + 1) stored)) (filter p (enumerate_from (a + 1) stored))))) [
      | true ↦ ((positive, omega arith), later)
      | false ↦ later
    ]
  where
    wider : (pages : List ℕ) → AllByRecursion (λ page. (1 ≤ page) × (page < (a + 1) + length stored)) pages → AllByRecursion (λ page. (1 ≤ page) × (page < a + length (links ∷ stored))) pages
    wider [] all = tt
    wider (page ∷ pages) all = ((all.0.0, let below = all.0.1 in omega (arith, below)), wider pages all.1)

taken : (pages : List ℕ) (n most : ℕ) → AllByRecursion (λ page. (1 ≤ page) × (page < 1 + n)) pages → AllByRecursion (Within n) (take most pages)
taken [] n zero all = tt
taken [] n (suc most) all = tt
taken (page ∷ pages) n zero all = tt
taken (page ∷ pages) n (suc most) all = ((all.0.0, let below = all.0.1 in omega (arith, below)), taken pages n most all.1)

pub users-within : (stored : List PageRows) (fan : FanEntry) (most : ℕ) → AllByRecursion (Within (length stored)) (users stored fan.title fan.reach fan.cursor most)
users-within stored fan most =
    rw (users-is stored fan.title fan.reach fan.cursor most)
    (taken (found (uses fan.title fan.reach fan.cursor) 1 stored) (length stored) most (found-within (uses fan.title fan.reach fan.cursor) most 1 stored (omega arith)))

formed-served : (most : ℕ) (state : State) (fan : FanEntry) → IsWellFormed state → IsWellFormed (with_jobs state (after_serving state.stored most state.jobs fan))
formed-served most state fan formed =
    let P = Within (length state.history.pages) in
    let served = next_served state.stored most fan in
    let pages : AllByRecursion P served = subst (λ n. AllByRecursion (Within n) served) formed.stored (users-within state.stored fan most) in
    let all = all_queued-within P state.jobs served pages (recursion_from_All P (pages_of state.jobs) formed.jobs) in
    formed-jobs state (after_serving state.stored most state.jobs fan) formed
    (All-from_recursion P (pages_of (after_serving state.stored most state.jobs fan))
    (cond_both _ _ _ (λ (after : JobLists). AllByRecursion P (pages_of after)) (λ nobody. all) (λ others. all)))

-- ---- a refresh

dropped-within : (P : ℕ → Type 0) (whose : ℕ) (jobs : List RefreshEntry) → AllByRecursion P (map (λ job. job.page) jobs) → AllByRecursion P (map (λ job. job.page) (filter (λ job. not (eqb job.page whose)) jobs))
dropped-within P whose [] all = tt
dropped-within P whose (job ∷ jobs) all =
    elim (not (eqb job.page whose)) as (λ b. AllByRecursion P (map (λ job. job.page) (cond b (job ∷ filter (λ job. not (eqb job.page whose)) jobs) (filter (λ job. not (eqb job.page whose)) jobs)))) [
      | true ↦ (all.0, dropped-within P whose jobs all.1)
      | false ↦ dropped-within P whose jobs all.1
    ]

formed-refreshed : (state : State) (page : ℕ) → IsWellFormed state → IsWellFormed (with_refreshed state page)
formed-refreshed state page formed = record {
  stored = length-set state.stored (page - 1) (rows (world_of state) (title_at state.history page)) ∙ formed.stored;
  jobs = All-from_recursion (Within (length state.history.pages)) (pages_of (refresh_dropped state.jobs page))
      (dropped-within (Within (length state.history.pages)) page state.jobs.refreshes (recursion_from_All (Within (length state.history.pages)) (pages_of state.jobs) formed.jobs));
  titles = formed.titles;
  texts = formed.texts;
}

-- ---- a restart

pub IsWellFormed-reopened : (state : State) → IsWellFormed state → IsWellFormed (reopened state)
IsWellFormed-reopened state formed =
    formed-jobs state (reopened_jobs state.jobs) formed
    (All-permutation (Within (length state.history.pages)) (pages_of state.jobs) (pages_of (reopened_jobs state.jobs)) (pages-reopened state.jobs) formed.jobs)

-- ---- a save

module _ (title : PageTitle) (number : ℕ) where
  abbrev is_it : Page → Bool
  is_it page = title_eq page.title title

  pub titles-old : (pages : List Page) → list_any is_it pages ≡ true → map (λ (p : Page). p.title) (with_current pages title number) ≡ map (λ (p : Page). p.title) pages
  titles-old [] there = absurd (let e : false ≡ true = there in cc)
  titles-old (page ∷ pages) there = elim (cases_Bool (title_eq page.title title)) [
    | inl same ↦ rw same refl
    | inr differs ↦ rw differs (ap (λ (ts : List PageTitle). page.title ∷ ts) (titles-old pages (rw differs at there)))
  ]

  pub pages-new : (pages : List Page) → list_any is_it pages ≡ false → with_current pages title number ≡ pages ++ record { title = title; current = number } ∷ []
  pages-new [] none = refl
  pages-new (page ∷ pages) none =
      let parts = or_parts (title_eq page.title title) (list_any is_it pages) none in
      rw (parts.0) (ap (λ (ps : List Page). page ∷ ps) (pages-new pages parts.1))

  pub placed-in : (pages : List Page) → ltb (position_or_len is_it pages) (length pages) ≡ list_any is_it pages
  placed-in [] = refl
  placed-in (page ∷ pages) = elim (cases_Bool (title_eq page.title title)) [
    | inl same ↦ rw same (lt-ltb 0 (suc (length pages)) (omega arith))
    | inr differs ↦ rw differs (elim (cases_Bool (list_any is_it pages)) [
      | inl there ↦
          let below = ltb-true (position_or_len is_it pages) (length pages) (placed-in pages ∙ there) in
          rw there (lt-ltb (1 + position_or_len is_it pages) (suc (length pages)) (omega (arith, below)))
      | inr none ↦
          let past = ltb-false (position_or_len is_it pages) (length pages) (placed-in pages ∙ none) in
          rw none (le-ltb (1 + position_or_len is_it pages) (suc (length pages)) (omega (arith, past)))
    ])
  ]

  pub numbered : (pages : List Page) → is_some (option_map (λ place. place + 1) (position is_it pages)) ≡ list_any is_it pages
  numbered pages = elim (cases_Bool (ltb (position_or_len is_it pages) (length pages))) [
    | inl within ↦ rw within (sym within ∙ placed-in pages)
    | inr past ↦ rw past (sym past ∙ placed-in pages)
  ]

  pub length-old : (pages : List Page) → list_any is_it pages ≡ true → length (with_current pages title number) ≡ length pages
  length-old [] there = absurd (let e : false ≡ true = there in cc)
  length-old (page ∷ pages) there = elim (cases_Bool (title_eq page.title title)) [
    | inl same ↦ rw same refl
    | inr differs ↦ rw differs (ap suc (length-old pages (rw differs at there)))
  ]

  pub length-new : (pages : List Page) → list_any is_it pages ≡ false → length (with_current pages title number) ≡ length pages + 1
  length-new pages none = ap (λ (ps : List Page). length ps) (pages-new pages none) ∙ length-append pages (record { title = title; current = number } ∷ [])

  distinct-saved : (pages : List Page) → IsDistinct title_eq (map (λ (p : Page). p.title) pages) → IsDistinct title_eq (map (λ (p : Page). p.title) (with_current pages title number))
  distinct-saved pages apart = elim (cases_Bool (list_any is_it pages)) [
    | inl there ↦ subst (IsDistinct title_eq) (sym (titles-old pages there)) apart
    | inr none ↦
        let is : map (λ (p : Page). p.title) (with_current pages title number) ≡ map (λ (p : Page). p.title) pages ++ title ∷ [] =
        ap (λ (ps : List Page). map (λ (p : Page). p.title) ps) (pages-new pages none) ∙ map-append (λ (p : Page). p.title) pages (record { title = title; current = number } ∷ []) in
        subst (IsDistinct title_eq) (sym is)
        (IsDistinct-push title_eq (map (λ (p : Page). p.title) pages) title apart (list_any-map (λ (t : PageTitle). title_eq t title) (λ (p : Page). p.title) pages ∙ none))
  ]

  each-saved : (P Q : ℕ → Type 0) → ((m : ℕ) → P m → Q m) → Q number → (pages : List Page) → AllByRecursion (λ (page : Page). P page.current) pages → AllByRecursion (λ (page : Page). Q page.current) (with_current pages title number)
  each-saved P Q kept own [] all = (own, tt)
  each-saved P Q kept own (page ∷ pages) all = elim (cases_Bool (title_eq page.title title)) [
    | inl same ↦ rw same (own, rest pages all.1)
    | inr differs ↦ rw differs (kept page.current all.0, each-saved P Q kept own pages all.1)
  ]
    where
      rest : (ps : List Page) → AllByRecursion (λ (p : Page). P p.current) ps → AllByRecursion (λ (p : Page). Q p.current) ps
      rest [] every = tt
      rest (p ∷ ps) every = (kept p.current every.0, rest ps every.1)

  pub own-within : (pages : List Page) → Within (length (with_current pages title number)) (unwrap_or (option_map (λ place. place + 1) (position is_it pages)) (length pages + 1))
  own-within pages = elim (cases_Bool (ltb (position_or_len is_it pages) (length pages))) [
    | inl within ↦
        let same = length-old pages (sym (placed-in pages) ∙ within) in
        let below = ltb-true (position_or_len is_it pages) (length pages) within in
        rw within (omega arith, omega (arith, same, below))
    | inr past ↦
        let more = length-new pages (sym (placed-in pages) ∙ past) in
        rw past (omega arith, omega (arith, more))
  ]

  pub no-fewer : (pages : List Page) → length pages ≤ length (with_current pages title number)
  no-fewer pages = elim (cases_Bool (list_any is_it pages)) [
    | inl there ↦ let same = length-old pages there in omega (arith, same)
    | inr none ↦ let more = length-new pages none in omega (arith, more)
  ]

  stored-saved : (stored : List PageRows) (pages : List Page) → length stored ≡ length pages
      → length (cond (is_some (option_map (λ place. place + 1) (position is_it pages))) stored (stored ++ no_rows ∷ [])) ≡ length (with_current pages title number)
  stored-saved stored pages same = elim (cases_Bool (list_any is_it pages)) [
    | inl there ↦ rw (numbered pages, there) (same ∙ sym (length-old pages there))
    | inr none ↦
        let longer = length-append stored (no_rows ∷ []) in
        let more = length-new pages none in
        rw (numbered pages, none) (longer ∙ (ap (λ n. n + 1) same ∙ sym more))
  ]

weaker-within : (n m : ℕ) → n ≤ m → (pages : List ℕ) → AllByRecursion (Within n) pages → AllByRecursion (Within m) pages
weaker-within n m more [] all = tt
weaker-within n m more (page ∷ pages) all = ((all.0.0, let below = all.0.1 in omega (arith, more, below)), weaker-within n m more pages all.1)

stands-own : (h : History) (title : PageTitle) (text : Option (List ℕ)) (moment : ℕ) → Stands (saved h title text moment) (cond (is_some text) (next_revision h) 0)
stands-own h title None moment = inl refl
stands-own h title (Some text) moment = inr (ap (λ (o : Option (List ℕ)). is_some o) (text-own h title (Some text) moment))

stands-kept : (h : History) (title : PageTitle) (text : Option (List ℕ)) (moment number : ℕ) → Stands h number → Stands (saved h title text moment) number
stands-kept h title text moment number (inl none) = inl none
stands-kept h title text moment number (inr there) = inr (ap (λ (o : Option (List ℕ)). is_some o) (text-kept h title text moment number (inr there)) ∙ there)

after-within : (P : ℕ → Type 0) (stored : List PageRows) (lists : JobLists) (page : ℕ) (title : PageTitle) (reach : Reach) → AllByRecursion P (pages_of (refresh_queued lists page)) → AllByRecursion P (pages_of (after_save stored lists page title reach))
after-within P stored lists page title reach queued =
    cond_both (has_fan (refresh_queued lists page) title || some_page_names stored title reach) (fan_set (refresh_queued lists page) title reach) (refresh_queued lists page) (λ (after : JobLists). AllByRecursion P (pages_of after))
    (λ named. subst (AllByRecursion P) (sym (pages-fan_set (refresh_queued lists page) title reach)) queued) (λ nobody. queued)

formed-saved : (state : State) (title : PageTitle) (text : Option (List ℕ)) (moment : ℕ) → IsWellFormed state → IsWellFormed (with_saved state title text moment)
formed-saved state title text moment formed =
    let h = state.history in
    let number = cond (is_some text) (next_revision h) 0 in
    let pages : (saved h title text moment).pages ≡ with_current h.pages title number = pages-saved h title text moment in
    let P = Within (length (with_current h.pages title number)) in
    let page = page_to_save h title in
    let before = weaker-within (length h.pages) (length (with_current h.pages title number)) (no-fewer title number h.pages) (pages_of state.jobs)
    (recursion_from_All (Within (length h.pages)) (pages_of state.jobs) formed.jobs) in
    let queued = queued-within P state.jobs page (own-within title number h.pages) before in
    let after : AllByRecursion P (pages_of (with_saved state title text moment).jobs) =
    after-within P (stored_with state title) state.jobs page title (reach_of_save (page_exists h title) (is_some text)) queued in
    record {
      stored = stored-saved title number state.stored h.pages formed.stored ∙ sym (ap (λ (ps : List Page). length ps) pages);
      jobs = subst (λ (ps : List Page). All (Within (length ps)) (pages_of (with_saved state title text moment).jobs)) (sym pages) (All-from_recursion P (pages_of (with_saved state title text moment).jobs) after);
      titles = subst (λ (ps : List Page). IsDistinct title_eq (map (λ (p : Page). p.title) ps)) (sym pages) (distinct-saved title number h.pages formed.titles);
      texts = subst (λ (ps : List Page). All (λ (p : Page). Stands (saved h title text moment) p.current) ps) (sym pages)
          (All-from_recursion (λ (p : Page). Stands (saved h title text moment) p.current) (with_current h.pages title number)
          (each-saved title number (Stands h) (Stands (saved h title text moment)) (stands-kept h title text moment) (stands-own h title text moment) h.pages
          (recursion_from_All (λ (p : Page). Stands h p.current) h.pages formed.texts)));
    }

-- ---- a step

pub IsWellFormed-step : (most : ℕ) (state next : State) (journal : ℕ) (event : Event) → step_by most state journal event ≡ Some next → IsWellFormed state → IsWellFormed next
IsWellFormed-step most state next journal (Save title text moment) done formed = elim (cases_Bool (can_save state.history title text)) [
  | inl can ↦
      let is : Some (with_saved state title text moment) ≡ Some next = rw can at done in
      let same : with_saved state title text moment ≡ next = cc in
      subst IsWellFormed same (formed-saved state title text moment formed)
  | inr cannot ↦ absurd (let e : None ≡ Some next = rw cannot at done in cc)
]
IsWellFormed-step most state next journal Claim done formed =
    given IsWellFormed (λ page. with_jobs state (claimed_by state.jobs (journal + 1))) (first_queued state.jobs) next done
    (λ page. formed-jobs state (claimed_by state.jobs (journal + 1)) formed
    (subst (All (Within (length state.history.pages))) (sym (pages-claimed state.jobs (journal + 1))) formed.jobs))
IsWellFormed-step most state next journal (Done ticket) done formed =
    given IsWellFormed (λ page. with_refreshed state page) (page_held_by state.jobs ticket) next done (λ page. formed-refreshed state page formed)
IsWellFormed-step most state next journal (Back ticket) done formed =
    given IsWellFormed (λ page. with_jobs state (given_back state.jobs page)) (page_held_by state.jobs ticket) next done
    (λ page. formed-jobs state (given_back state.jobs page) formed
    (All-permutation (Within (length state.history.pages)) (pages_of state.jobs) (pages_of (given_back state.jobs page)) (pages-given_back state.jobs page) formed.jobs))
IsWellFormed-step most state next journal Fan done formed = by (slice_get state.jobs.fans 0) done
  where
    by : (o : Option FanEntry) → option_map (λ jobs. with_jobs state jobs) (option_map (after_serving state.stored most state.jobs) o) ≡ Some next → IsWellFormed next
    by None is = absurd (let e : None ≡ Some next = is in cc)
    by (Some fan) is =
        let got : Some (with_jobs state (after_serving state.stored most state.jobs fan)) ≡ Some next = is in
        let same : with_jobs state (after_serving state.stored most state.jobs fan) ≡ next = cc in
        subst IsWellFormed same (formed-served most state fan formed)
