-- What a fan does of the work that is left.
use Rattle.std.proofs.Common.{◌≡◌, ℕ, suc, zero, ◌+◌, ◌-◌, ◌*◌, ◌≤◌, ◌<◌, Bool, true, false, cond, eqb, ltb, List, [], ◌∷◌, length, take, drop, unwrap_or, Option, Some, None, refl, sym, ap, ◌∙◌, inl, inr, subst, arith}
use Rattle.std.specs.Prelude.{option_map, slice_get, sum_by}
use Rattle.std.specs.List.{last_or}
use Rattle.std.proofs.lemmas.Bool.{and_parts, cases_Bool, ltb-true}
use Rattle.std.proofs.lemmas.List.{length-append, length-take}
use Rattle.std.proofs.lemmas.List.Sums.{sum_by-cons}
use Rattle.wk_page_rules.specs.PageRows.{PageRows, names}
use Rattle.wk_wiki_rules.specs.Jobs.{FanEntry, JobLists, fan_dropped, fan_moved, has_refresh, refresh_queued, with_first_cursor}
use Rattle.wk_wiki_rules.specs.Steps.{after_serving, all_queued, cursor_behind, next_served}
use Rattle.wk_wiki_rules.specs.Users.{users}
use Rattle.wk_wiki_rules.specs.States.{State}
use Rattle.wk_wiki_rules.specs.Events.{Fan, step_by, with_jobs}
use Rattle.wk_wiki_laws.specs.WellFormed.{IsWellFormed}
use Rattle.wk_wiki_laws.proofs.Fanned.{fans-all_queued}
use Rattle.wk_wiki_laws.proofs.Served.{found, uses, users-is}
use Rattle.wk_wiki_laws.specs.Numbers.{pages_ahead}

-- each page that a fan may serve counts twice, since its refresh is a job too
abbrev pub work : State → ℕ
work state = 2 * pages_ahead state + length state.jobs.fans + length state.jobs.refreshes

abbrev ahead_of : ℕ → List FanEntry → ℕ
ahead_of pages fans = sum_by (λ (fan : FanEntry). pages - fan.cursor) fans

-- ---- the pages that are found

module _ (p : ℕ × PageRows → Bool) where
  pub found-few : (b a : ℕ) (stored : List PageRows) → ((n : ℕ) (links : PageRows) → a ≤ n → p (n, links) ≡ true → b < n) → length (found p a stored) ≤ a + length stored - suc b
  found-few b a [] above = omega arith
  found-few b a (x ∷ xs) above = elim (cases_Bool (p (a, x))) [
    | inl fits ↦
        let later = found-few a (a + 1) xs (λ n links at passes. omega (arith, at)) in
        let low = above a x (omega arith) fits in
        rw fits (omega (arith, later, low))
    | inr fails ↦
        let later = found-few b (a + 1) xs (λ n links at passes. above n links (omega (arith, at)) passes) in
        rw fails (omega (arith, later))
  ]

  pub last-behind : (a : ℕ) (stored : List PageRows) (most : ℕ) (o : Option ℕ) (d : ℕ) → ((n : ℕ) (links : PageRows) → a ≤ n → p (n, links) ≡ true → unwrap_or o d < n)
      → unwrap_or o d + length (take most (found p a stored)) ≤ unwrap_or (last_or o (take most (found p a stored))) d
  last-behind a [] zero o d above = omega arith
  last-behind a [] (suc most) o d above = omega arith
  last-behind a (x ∷ xs) zero o d above = omega arith
  last-behind a (x ∷ xs) (suc most) o d above = elim (cases_Bool (p (a, x))) [
    | inl fits ↦
        let later = last-behind (a + 1) xs most (Some a) d (λ n links at passes. omega (arith, at)) in
        let low = above a x (omega arith) fits in
        rw fits (omega (arith, later, low))
    | inr fails ↦ rw fails (last-behind (a + 1) xs (suc most) o d (λ n links at passes. above n links (omega (arith, at)) passes))
  ]

take-nothing : (most : ℕ) → take {A = ℕ} most [] ≡ []
take-nothing zero = refl
take-nothing (suc most) = refl

-- ---- the jobs of the pages

refreshes-queued : (lists : JobLists) (page : ℕ) → length (refresh_queued lists page).refreshes ≤ length lists.refreshes + 1
refreshes-queued lists page = elim (cases_Bool (has_refresh lists page)) [
  | inl there ↦ rw there (omega arith)
  | inr none ↦ rw none (simp length-append (omega arith))
]

refreshes-all_queued : (lists : JobLists) (pages : List ℕ) → length (all_queued lists pages).refreshes ≤ length lists.refreshes + length pages
refreshes-all_queued lists [] = omega arith
refreshes-all_queued lists (page ∷ pages) =
    let first = refreshes-queued lists page in
    let later = refreshes-all_queued (refresh_queued lists page) pages in
    omega (arith, first, later)

-- ---- a fan

abbrev FanWorks : State → State → Type 0
FanWorks old new = work new < work old

module _ (most : ℕ) (some : 1 ≤ most) (state : State) (formed : IsWellFormed state) (fan : FanEntry) (rest : List FanEntry) (fans : state.jobs.fans ≡ fan ∷ rest) where
  abbrev all : List ℕ
  all = found (uses fan.title fan.reach fan.cursor) 1 state.stored

  abbrev served : List ℕ
  served = next_served state.stored most fan

  abbrev cursor : ℕ
  cursor = cursor_behind served fan.cursor

  abbrev queued : JobLists
  queued = all_queued state.jobs served

  above : (n : ℕ) (links : PageRows) → 1 ≤ n → uses fan.title fan.reach fan.cursor (n, links) ≡ true → fan.cursor < n
  above n links at passes = ltb-true fan.cursor n (and_parts (ltb fan.cursor n) (names links fan.title fan.reach) passes).0

  served-is : served ≡ take most all
  served-is = users-is state.stored fan.title fan.reach fan.cursor most

  few : length served ≤ length state.history.pages - fan.cursor
  few =
      let is = ap length served-is in
      let taken = length-take most all in
      let n = found-few (uses fan.title fan.reach fan.cursor) fan.cursor 1 state.stored above in
      let same = formed.stored in
      omega (arith, is, taken, n, same)

  far : fan.cursor + length served ≤ cursor
  far =
      subst (λ (ns : List ℕ). fan.cursor + length ns ≤ cursor_behind ns fan.cursor) (sym served-is)
      (last-behind (uses fan.title fan.reach fan.cursor) 1 state.stored most None fan.cursor above)

  -- where pages are left behind the cursor, some page was served
  some-served : eqb (length (users state.stored fan.title fan.reach cursor 1)) 0 ≡ false → 1 ≤ length served
  some-served stays = by all refl
    where
      by : (l : List ℕ) → all ≡ l → 1 ≤ length served
      by [] none =
          let no : served ≡ [] = served-is ∙ (ap (take most) none ∙ take-nothing most) in
          let at : cursor ≡ fan.cursor = ap (λ ns. cursor_behind ns fan.cursor) no in
          let empty : users state.stored fan.title fan.reach cursor 1 ≡ [] =
          ap (λ c. users state.stored fan.title fan.reach c 1) at ∙ (users-is state.stored fan.title fan.reach fan.cursor 1 ∙ ap (take 1) none) in
          absurd (let e : true ≡ false = sym (ap (λ (ns : List ℕ). eqb (length ns) 0) empty) ∙ stays in cc)
      by (x ∷ xs) is =
          let n = ap length (served-is ∙ ap (take most) is) in
          let taken = length-take most (x ∷ xs) in
          omega (arith, n, taken, some)

  queued-fans : queued.fans ≡ fan ∷ rest
  queued-fans = fans-all_queued state.jobs served ∙ fans

  ahead-before : pages_ahead state ≡ (length state.history.pages - fan.cursor) + ahead_of (length state.history.pages) rest
  ahead-before = ap (ahead_of (length state.history.pages)) fans ∙ sum_by-cons (λ (f : FanEntry). length state.history.pages - f.cursor) fan rest

  refreshes-now : length queued.refreshes ≤ length state.jobs.refreshes + length served
  refreshes-now = refreshes-all_queued state.jobs served

  dropped-works : FanWorks state (with_jobs state (fan_dropped queued))
  dropped-works =
      let left : drop 1 queued.fans ≡ rest = ap (drop 1) queued-fans in
      let now : ahead_of (length state.history.pages) (drop 1 queued.fans) ≡ ahead_of (length state.history.pages) rest = ap (ahead_of (length state.history.pages)) left in
      let many : length (drop 1 queued.fans) ≡ length rest = ap length left in
      let before : length state.jobs.fans ≡ suc (length rest) = ap length fans in
      omega (arith, now, many, before, ahead-before, few, refreshes-now)

  moved-works : 1 ≤ length served → FanWorks state (with_jobs state (fan_moved queued cursor))
  moved-works one =
      let left : with_first_cursor queued.fans cursor ≡ record fan { cursor = cursor } ∷ rest = ap (λ (fs : List FanEntry). with_first_cursor fs cursor) queued-fans in
      let now : ahead_of (length state.history.pages) (with_first_cursor queued.fans cursor) ≡ (length state.history.pages - cursor) + ahead_of (length state.history.pages) rest =
      ap (ahead_of (length state.history.pages)) left ∙ sum_by-cons (λ (f : FanEntry). length state.history.pages - f.cursor) (record fan { cursor = cursor }) rest in
      let many : length (with_first_cursor queued.fans cursor) ≡ suc (length rest) = ap length left in
      let before : length state.jobs.fans ≡ suc (length rest) = ap length fans in
      omega (arith, now, many, before, ahead-before, few, far, refreshes-now, one)

  served-works : (gone : Bool) → eqb (length (users state.stored fan.title fan.reach cursor 1)) 0 ≡ gone → FanWorks state (with_jobs state (cond gone (fan_dropped queued) (fan_moved queued cursor)))
  served-works true is = dropped-works
  served-works false is = moved-works (some-served is)

  pub fan-serves : FanWorks state (with_jobs state (after_serving state.stored most state.jobs fan))
  fan-serves = served-works (eqb (length (users state.stored fan.title fan.reach cursor 1)) 0) refl

pub fan-works : (most : ℕ) (state next : State) (journal : ℕ) → 1 ≤ most → IsWellFormed state → step_by most state journal Fan ≡ Some next → FanWorks state next
fan-works most state next journal some formed done = by state.jobs.fans refl done
  where
    by : (fans : List FanEntry) → state.jobs.fans ≡ fans → option_map (λ jobs. with_jobs state jobs) (option_map (after_serving state.stored most state.jobs) (slice_get fans 0)) ≡ Some next → FanWorks state next
    by [] none is = absurd (let e : None ≡ Some next = is in cc)
    by (fan ∷ rest) fans is =
        let given : Some (with_jobs state (after_serving state.stored most state.jobs fan)) ≡ Some next = is in
        let same : with_jobs state (after_serving state.stored most state.jobs fan) ≡ next = cc in
        subst (FanWorks state) same (fan-serves most some state formed fan rest fans)
