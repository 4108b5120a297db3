-- A store with good tables is opened as a wiki that is well formed.
use Rattle.std.proofs.Common.{◌≡◌, ℕ, zero, suc, ◌+◌, ◌-◌, ◌≤◌, Bool, true, false, cond, eqb, ltb, not, ◌&&◌, ◌⊎◌, List, [], ◌∷◌, ◌++◌, length, map, Option, Some, None, refl, sym, ap, ◌∙◌, inl, inr, subst, arith, append_assoc, append-nil}
use Rattle.std.specs.Prelude.{slice_get, option_map, position, is_some, bytes_eq}
use Rattle.std.specs.List.{AllByRecursion, IsDistinct, filter, filter_map, list_any, last_or, range_with_len, position_or_len}
use Rattle.std.proofs.lemmas.Bool.{cases_Bool, cond_both, and_parts, not-true, ltb-true, eqb-true, ne_eqb}
use Rattle.std.proofs.lemmas.List.{length-map, map-append}
use Rattle.std.proofs.lemmas.List.Elements.{All-from_recursion, recursion_from_All}
use Rattle.std.proofs.lemmas.Option.{slice_get-map}
use Rattle.wk_text_rules.specs.Titles.{title_eq, is_page_title}
use Rattle.wk_page_rules.specs.History.{Page, page_number, text_of_revision}
use Rattle.wk_table_rules.specs.Rows.{StoreTables, PageColumns, RevisionColumns, JobColumns}
use Rattle.wk_table_rules.specs.JobTable.{refresh_cmd}
use Rattle.wk_table_rules.specs.Stored.{rows_of_page, history_of, page_of_row, revision_of_row}
use Rattle.wk_table_rules.specs.GoodStore.{IsGood, has_good_title, has_good_latest, last_revision}
use Rattle.wk_table_laws.specs.EachGood.{GoodAfter, EachGood, KeepsRules}
use Rattle.wk_table_laws.proofs.FirstBad.{KeepsRules-from_good}
use Rattle.wk_table_laws.proofs.GoodChanges.{rev_id-is}
use Rattle.wk_wiki_rules.specs.Jobs.{RefreshEntry, pages_of}
use Rattle.wk_wiki_rules.specs.Steps.{refresh_of_row}
use Rattle.wk_wiki_rules.proofs.Lists.{IsDistinct-push, list_any-map, map-map}
use Rattle.wk_wiki_rules.specs.States.{State}
use Rattle.wk_wiki_rules.specs.Tables.{state_of}
use Rattle.wk_wiki_rules.specs.Lives.{all_refreshed, opened}
use Rattle.wk_wiki_laws.specs.WellFormed.{IsWellFormed}
use Rattle.wk_wiki_laws.proofs.SavedHistory.{Stands}
use Rattle.wk_wiki_laws.proofs.Formed.{Within, formed-jobs, all_queued-within, IsWellFormed-reopened}

-- ---- places

pub place-within : {X : Type 0} (p : X → Bool) (xs : List X) (number : ℕ) → option_map (λ place. place + 1) (position p xs) ≡ Some number → Within (length xs) number
place-within p xs number there = elim (cases_Bool (ltb (position_or_len p xs) (length xs))) [
  | inl within ↦
      let below = ltb-true (position_or_len p xs) (length xs) within in
      let e : Some (position_or_len p xs + 1) ≡ Some number = rw within at there in
      let is : position_or_len p xs + 1 ≡ number = cc in
      (omega (arith, is), omega (arith, below, is))
  | inr past ↦ absurd (let e : None ≡ Some number = rw past at there in cc)
]

-- ---- jobs

pub job-within : (tables : StoreTables) (rows : List JobColumns) → AllByRecursion (Within (length (map page_of_row tables.pages))) (map (λ (job : RefreshEntry). job.page) (filter_map (refresh_of_row tables) rows))
job-within tables [] = tt
job-within tables (row ∷ rows) = let later = job-within tables rows in elim (cases_Bool (bytes_eq row.job_cmd refresh_cmd)) [
  | inl refresh ↦ by later refresh (page_number (history_of tables) row.job_title) refl
  | inr other ↦ rw other later
]
  where
    by : AllByRecursion (Within (length (map page_of_row tables.pages))) (map (λ (job : RefreshEntry). job.page) (filter_map (refresh_of_row tables) rows)) → bytes_eq row.job_cmd refresh_cmd ≡ true → (o : Option ℕ) → page_number (history_of tables) row.job_title ≡ o
        → AllByRecursion (Within (length (map page_of_row tables.pages))) (map (λ (job : RefreshEntry). job.page) (filter_map (refresh_of_row tables) (row ∷ rows)))
    by later refresh None is = rw (refresh, is) later
    by later refresh (Some page) is = rw (refresh, is) (place-within (λ (p : Page). title_eq p.title row.job_title) (map page_of_row tables.pages) page is, later)

-- ---- titles

titles-after : (before rows : List PageColumns) → GoodAfter has_good_title before rows → IsDistinct title_eq (map (λ (row : PageColumns). row.page_title) before) → IsDistinct title_eq (map (λ (row : PageColumns). row.page_title) (before ++ rows))
titles-after before [] good apart = rw append-nil apart
titles-after before (row ∷ rows) good apart =
    let parts = and_parts (is_page_title row.page_title) (not (list_any (λ earlier. title_eq earlier.page_title row.page_title) before)) good.0 in
    let none = not-true (list_any (λ earlier. title_eq earlier.page_title row.page_title) before) parts.1 in
    let one = IsDistinct-push title_eq (map (λ (r : PageColumns). r.page_title) before) row.page_title apart
    (list_any-map (λ t. title_eq t row.page_title) (λ (r : PageColumns). r.page_title) before ∙ none) in
    subst (λ (all : List PageColumns). IsDistinct title_eq (map (λ (r : PageColumns). r.page_title) all)) (append_assoc before (row ∷ []) rows)
    (titles-after (before ++ row ∷ []) rows good.1
    (subst (IsDistinct title_eq) (sym (map-append (λ (r : PageColumns). r.page_title) before (row ∷ []))) one))

pub titles-distinct : (rows : List PageColumns) → EachGood has_good_title rows → IsDistinct title_eq (map (λ (row : PageColumns). row.page_title) rows)
unfolding IsDistinct
titles-distinct rows good = titles-after [] rows good tt

-- ---- current revisions

last-at : {X : Type 0} (p : X → Bool) (o : Option X) (xs : List X) (x : X) → last_or o (filter p xs) ≡ Some x → (o ≡ Some x) ⊎ ((place : ℕ) × (slice_get xs place ≡ Some x))
last-at p o [] x there = inl there
last-at p o (y ∷ xs) x there = elim (cases_Bool (p y)) [
  | inl passes ↦ elim (last-at p (Some y) xs x (rw passes at there)) [
    | inl first ↦ inr (zero, first)
    | inr later ↦ inr (suc later.0, later.1)
  ]
  | inr fails ↦ elim (last-at p o xs x (rw fails at there)) [
    | inl first ↦ inl first
    | inr later ↦ inr (suc later.0, later.1)
  ]
]

-- the page's last revision, its place, and what the page's row says of it
pub record HasLast (tables : StoreTables) (page : PageColumns) : Type 0 where
  pub last : RevisionColumns
  pub place : ℕ
  pub there : slice_get tables.revisions place ≡ Some last
  pub number : last.rev_id ≡ place + 1
  pub latest : page.page_latest ≡ cond last.rev_gone 0 last.rev_id
  pub len : page.page_len ≡ last.rev_len
  pub is : last_revision tables.revisions page.page_id ≡ Some last

pub has-last : (tables : StoreTables) (before : List PageColumns) (page : PageColumns) → IsGood tables → has_good_latest tables before page ≡ true → HasLast tables page
has-last tables before page good holds = by (last_revision tables.revisions page.page_id) refl holds
  where
    by : (o : Option RevisionColumns) → last_revision tables.revisions page.page_id ≡ o
        → (elim o as (λ x. Bool) [ None ↦ false | Some last ↦ eqb page.page_latest (elim o as (λ x. ℕ) [ None ↦ 0 | Some last ↦ cond last.rev_gone 0 last.rev_id ]) && eqb page.page_len last.rev_len ]) ≡ true → HasLast tables page
    by None is all = absurd (let e : false ≡ true = all in cc)
    by (Some last) is all =
        let parts = and_parts (eqb page.page_latest (cond last.rev_gone 0 last.rev_id)) (eqb page.page_len last.rev_len) all in
        elim (last-at (λ (r : RevisionColumns). eqb r.rev_page page.page_id) None tables.revisions last is) [
          | inl none ↦ absurd (let e : None ≡ Some last = none in cc)
          | inr found ↦ record {
            last = last;
            place = found.0;
            there = found.1;
            number = rev_id-is tables found.0 last good found.1;
            latest = eqb-true page.page_latest (cond last.rev_gone 0 last.rev_id) parts.0;
            len = eqb-true page.page_len last.rev_len parts.1;
            is = is;
          }
        ]

pub text-last : (tables : StoreTables) (page : PageColumns) → (has : HasLast tables page) → has.last.rev_gone ≡ false → text_of_revision (history_of tables) page.page_latest ≡ Some has.last.rev_text
text-last tables page has stays =
    let at : page.page_latest ≡ has.place + 1 = has.latest ∙ ap (λ b. cond b 0 has.last.rev_id) stays ∙ has.number in
    let positive : eqb (has.place + 1) 0 ≡ false = ne_eqb (has.place + 1) 0 (λ none. omega (arith, none)) in
    let before : has.place + 1 - 1 ≡ has.place = omega arith in
    ap (λ n. text_of_revision (history_of tables) n) at
    ∙ rw (positive, before, slice_get-map revision_of_row tables.revisions has.place, has.there, stays) refl

pub texts-after : (tables : StoreTables) (before rows : List PageColumns) → IsGood tables → GoodAfter (has_good_latest tables) before rows → AllByRecursion (λ (page : Page). Stands (history_of tables) page.current) (map page_of_row rows)
texts-after tables before [] good each = tt
texts-after tables before (row ∷ rows) good each =
    let has = has-last tables before row good each.0 in (
      elim (cases_Bool has.last.rev_gone) [
        | inl gone ↦ inl (has.latest ∙ ap (λ b. cond b 0 has.last.rev_id) gone)
        | inr stays ↦ inr (ap (λ (o : Option (List ℕ)). is_some o) (text-last tables row has stays))
      ],
      texts-after tables (before ++ row ∷ []) rows good each.1,
    )

-- ---- the wiki that is opened

range-within : (a n m : ℕ) → 1 ≤ a → a + n ≤ m + 1 → AllByRecursion (Within m) (range_with_len a n)
range-within a zero m from to = tt
range-within a (suc n) m from to = ((from, omega (arith, to)), range-within (a + 1) n m (omega (arith, from)) (omega (arith, to)))

pub IsWellFormed-state_of : (tables : StoreTables) → IsGood tables → IsWellFormed (state_of tables)
IsWellFormed-state_of tables good = record {
  stored = length-map tables.pages (λ (page : PageColumns). rows_of_page tables page.page_id) ∙ sym (length-map tables.pages page_of_row);
  jobs = All-from_recursion (Within (length (map page_of_row tables.pages))) (pages_of (state_of tables).jobs)
      (job-within tables tables.jobs);
  titles = subst (IsDistinct title_eq) (sym (map-map (λ (p : Page). p.title) page_of_row (λ (row : PageColumns). row.page_title) (λ row. refl) tables.pages)) (titles-distinct tables.pages keeps.titles);
  texts = All-from_recursion (λ (page : Page). Stands (history_of tables) page.current) (map page_of_row tables.pages) (texts-after tables [] tables.pages good keeps.latest);
}
  where
    keeps : KeepsRules tables
    keeps = KeepsRules-from_good tables good

pub IsWellFormed-all_refreshed : (state : State) → IsWellFormed state → IsWellFormed (all_refreshed state)
IsWellFormed-all_refreshed state formed =
    let n = length state.history.pages in
    formed-jobs state (all_refreshed state).jobs formed
    (All-from_recursion (Within n) (pages_of (all_refreshed state).jobs)
    (all_queued-within (Within n) state.jobs (range_with_len 1 n) (range-within 1 n n (omega arith) (omega arith)) (recursion_from_All (Within n) (pages_of state.jobs) formed.jobs)))

pub IsWellFormed-opened : (tables : StoreTables) → IsGood tables → IsWellFormed (opened tables)
IsWellFormed-opened tables good =
    let formed = IsWellFormed-state_of tables good in
    IsWellFormed-reopened (cond (eqb tables.version 1) (all_refreshed (state_of tables)) (state_of tables))
    (cond_both (eqb tables.version 1) (all_refreshed (state_of tables)) (state_of tables) IsWellFormed (λ old. IsWellFormed-all_refreshed (state_of tables) formed) (λ other. formed))
