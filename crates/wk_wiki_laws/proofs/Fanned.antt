-- A fan keeps a wiki sound.
use Rattle.std.proofs.Common.{◌≡◌, ℕ, ◌-◌, ◌≤◌, Bool, true, false, cond, eqb, ltb, ◌||◌, List, [], ◌∷◌, length, drop, unwrap_or, Option, Some, None, refl, sym, ap, ◌∙◌, inl, inr, subst, arith}
use Rattle.std.specs.Prelude.{slice_get, option_map}
use Rattle.std.specs.List.{list_any}
use Rattle.std.proofs.lemmas.Bool.{cases_Bool, and_parts, and_from, or_left, or_right, ltb-true, ltb-false, both_ways, ne_eqb}
use Rattle.wk_text_rules.specs.Titles.{PageTitle}
use Rattle.wk_page_rules.specs.declared.Reach.{Reach}
use Rattle.wk_page_rules.specs.declared.Reach.TheVariants.{Text, Both}
use Rattle.wk_page_rules.specs.PageRows.{PageRows, no_rows, names}
use Rattle.wk_wiki_rules.specs.Jobs.{FanEntry, JobLists, has_refresh, refresh_queued, with_first_cursor, fan_moved, fan_dropped}
use Rattle.wk_wiki_rules.specs.Steps.{all_queued, after_serving, cursor_behind, next_served}
use Rattle.wk_wiki_rules.specs.Users.{users}
use Rattle.wk_wiki_rules.specs.Covers.{is_covered, fan_covers}
use Rattle.wk_wiki_rules.specs.States.{State, stored_at}
use Rattle.wk_wiki_rules.specs.Events.{Fan, with_jobs, step_by}
use Rattle.wk_wiki_rules.specs.Soundness.{IsSound}
use Rattle.wk_wiki_laws.proofs.Opened.{page-within, all-keeps, all-queues}
use Rattle.wk_wiki_laws.proofs.Served.{found, uses, users-is, is-found, is-served, some-first}

pub fans-queued : (lists : JobLists) (page : ℕ) → (refresh_queued lists page).fans ≡ lists.fans
fans-queued lists page = elim (cases_Bool (has_refresh lists page)) [ inl there ↦ rw there refl | inr none ↦ rw none refl ]

pub fans-all_queued : (lists : JobLists) (pages : List ℕ) → (all_queued lists pages).fans ≡ lists.fans
fans-all_queued lists [] = refl
fans-all_queued lists (page ∷ pages) = fans-all_queued (refresh_queued lists page) pages ∙ fans-queued lists page

-- ---- the lists after the pages are queued

abbrev moved_on : Bool → JobLists → ℕ → JobLists
moved_on gone queued cursor = cond gone (fan_dropped queued) (fan_moved queued cursor)

module _ (queued : JobLists) (cursor number : ℕ) (links : PageRows) where
  by-refresh : (gone : Bool) → has_refresh queued number ≡ true → is_covered (moved_on gone queued cursor) number links ≡ true
  by-refresh true there = or_left (has_refresh queued number) (list_any (fan_covers number links) (drop 1 queued.fans)) there
  by-refresh false there = or_left (has_refresh queued number) (list_any (fan_covers number links) (with_first_cursor queued.fans cursor)) there

  by-rest : (gone : Bool) (fan : FanEntry) (rest : List FanEntry) → queued.fans ≡ fan ∷ rest → list_any (fan_covers number links) rest ≡ true → is_covered (moved_on gone queued cursor) number links ≡ true
  by-rest true fan rest fans there = or_right (has_refresh queued number) (list_any (fan_covers number links) (drop 1 queued.fans)) (rw fans there)
  by-rest false fan rest fans there =
      or_right (has_refresh queued number) (list_any (fan_covers number links) (with_first_cursor queued.fans cursor))
      (rw fans (or_right (fan_covers number links (record fan { cursor = cursor })) (list_any (fan_covers number links) rest) there))

  by-first : (gone : Bool) (fan : FanEntry) (rest : List FanEntry) → gone ≡ false → queued.fans ≡ fan ∷ rest → fan_covers number links (record fan { cursor = cursor }) ≡ true → is_covered (moved_on gone queued cursor) number links ≡ true
  by-first gone fan rest stays fans there =
      rw stays
      (or_right (has_refresh queued number) (list_any (fan_covers number links) (with_first_cursor queued.fans cursor))
      (rw fans (or_left (fan_covers number links (record fan { cursor = cursor })) (list_any (fan_covers number links) rest) there)))

-- ---- the pages that the first fan job covers

nothing-named : (title : PageTitle) (reach : Reach) → names no_rows title reach ≡ false
nothing-named title Text = refl
nothing-named title Both = refl

got-at : (stored : List PageRows) (place : ℕ) (title : PageTitle) (reach : Reach) → names (unwrap_or (slice_get stored place) no_rows) title reach ≡ true → slice_get stored place ≡ Some (unwrap_or (slice_get stored place) no_rows)
got-at stored place title reach = by (slice_get stored place)
  where
    by : (o : Option PageRows) → names (unwrap_or o no_rows) title reach ≡ true → o ≡ Some (unwrap_or o no_rows)
    by (Some links) named = refl
    by None named = absurd (both_ways (names no_rows title reach) (nothing-named title reach) named)

covered-served : (stored : List PageRows) (most : ℕ) (lists : JobLists) (fan : FanEntry) (rest : List FanEntry) (number : ℕ) (links : PageRows) → lists.fans ≡ fan ∷ rest → 1 ≤ number → links ≡ unwrap_or (slice_get stored (number - 1)) no_rows
    → is_covered lists number links ≡ true → is_covered (after_serving stored most lists fan) number links ≡ true
covered-served stored most lists fan rest number links fans positive at covered = elim (cases_Bool (has_refresh lists number)) [
  | inl there ↦ by-refresh queued cursor number links gone (all-keeps lists served number there)
  | inr none ↦
      let by_fan : (fan_covers number links fan || list_any (fan_covers number links) rest) ≡ true = rw (none, fans) at covered in
      elim (cases_Bool (fan_covers number links fan)) [
        | inl first ↦ of-first first
        | inr other ↦ by-rest queued cursor number links gone fan rest queued-fans (rw other at by_fan)
      ]
]
  where
    served : List ℕ
    served = next_served stored most fan

    cursor : ℕ
    cursor = cursor_behind served fan.cursor

    queued : JobLists
    queued = all_queued lists served

    gone : Bool
    gone = eqb (length (users stored fan.title fan.reach cursor 1)) 0

    queued-fans : queued.fans ≡ fan ∷ rest
    queued-fans = fans-all_queued lists served ∙ fans

    of-first : fan_covers number links fan ≡ true → is_covered (moved_on gone queued cursor) number links ≡ true
    of-first first =
        let parts = and_parts (ltb fan.cursor number) (names links fan.title fan.reach) first in
        let got : slice_get stored (number - 1) ≡ Some links =
        rw at (got-at stored (number - 1) fan.title fan.reach (subst (λ (l : PageRows). names l fan.title fan.reach ≡ true) at parts.1)) in
        elim (cases_Bool (ltb cursor number)) [
          | inl below ↦
              let passes = and_from (ltb cursor number) (names links fan.title fan.reach) below parts.1 in
              let some = some-first (λ n. eqb n number) (found (uses fan.title fan.reach cursor) 1 stored)
              (is-found (uses fan.title fan.reach cursor) number links passes 1 stored positive got) in
              let stays : gone ≡ false = ap (λ (ns : List ℕ). eqb (length ns) 0) (users-is stored fan.title fan.reach cursor 1) ∙ some in
              by-first queued cursor number links gone fan rest stays queued-fans passes
          | inr past ↦
              let is = users-is stored fan.title fan.reach fan.cursor most in
              let low = ltb-true fan.cursor number parts.0 in
              let high : number ≤ cursor = let not_below = ltb-false cursor number past in omega (arith, not_below) in
              let in_list = is-served (uses fan.title fan.reach fan.cursor) number links first 1 stored most None fan.cursor positive got low
              (subst (λ (ns : List ℕ). number ≤ cursor_behind ns fan.cursor) is high) in
              by-refresh queued cursor number links gone
              (all-queues lists served number (subst (λ (ns : List ℕ). list_any (λ n. eqb n number) ns ≡ true) (sym is) in_list))
        ]

stored-is : (state : State) (number : ℕ) → 1 ≤ number → stored_at state number ≡ unwrap_or (slice_get state.stored (number - 1)) no_rows
stored-is state number positive = let more : eqb number 0 ≡ false = ne_eqb number 0 (λ none. omega (arith, none, positive)) in rw more refl

pub IsSound-fanned : (most : ℕ) (state next : State) (journal : ℕ) → step_by most state journal Fan ≡ Some next → IsSound state → IsSound next
IsSound-fanned most state next journal done sound = by state.jobs.fans refl done
  where
    by : (fans : List FanEntry) → state.jobs.fans ≡ fans → option_map (λ jobs. with_jobs state jobs) (option_map (after_serving state.stored most state.jobs) (slice_get fans 0)) ≡ Some next → IsSound next
    by [] none is = absurd (let e : None ≡ Some next = is in cc)
    by (fan ∷ rest) fans is =
        let given : Some (with_jobs state (after_serving state.stored most state.jobs fan)) ≡ Some next = is in
        let same : with_jobs state (after_serving state.stored most state.jobs fan) ≡ next = cc in
        subst IsSound same (λ number page there. elim (sound number page there) [
          | inl current ↦ inl current
          | inr covered ↦
              let within = page-within state.history number page there in
              inr (covered-served state.stored most state.jobs fan rest number (stored_at state number) fans within.0 (stored-is state number within.0) covered)
        ])
