-- What a fan serves, and what becomes of its job.
use Rattle.std.proofs.Common.{◌≡◌, ℕ, zero, suc, ◌+◌, ◌-◌, ◌≤◌, ◌<◌, Bool, true, false, cond, eqb, ltb, List, [], ◌∷◌, length, drop, take, unwrap_or, Option, Some, None, refl, sym, ap, ◌∙◌, inl, inr, subst, arith}
use Rattle.std.specs.Prelude.{All, AllPairs, slice_get, option_map}
use Rattle.std.specs.List.{AllByRecursion}
use Rattle.std.proofs.lemmas.Bool.{cases_Bool, and_parts, and_from, both_ways, ltb-true, lt-ltb, ne_eqb}
use Rattle.std.proofs.lemmas.List.Elements.{All-from_recursion}
use Rattle.std.proofs.lemmas.List.Kept.{AllPairs-cons}
use Rattle.wk_text_rules.specs.Titles.{PageTitle}
use Rattle.wk_page_rules.specs.declared.Reach.{Reach}
use Rattle.wk_page_rules.specs.declared.Reach.TheVariants.{Text, Both}
use Rattle.wk_page_rules.specs.PageRows.{PageRows, no_rows, names}
use Rattle.wk_wiki_rules.specs.Jobs.{FanEntry, JobLists, first_fan, with_first_cursor, fan_moved, fan_dropped}
use Rattle.wk_wiki_rules.specs.Steps.{all_queued, after_serving, cursor_behind, next_served}
use Rattle.wk_wiki_rules.specs.Users.{users}
use Rattle.wk_wiki_rules.specs.States.{State, stored_at}
use Rattle.wk_wiki_rules.specs.Events.{Fan, with_jobs, step_by}
use Rattle.wk_wiki_laws.proofs.Served.{found, uses, users-is, is-found, some-first}
use Rattle.wk_wiki_laws.proofs.Fanned.{fans-all_queued}

-- ---- what is found

abbrev pub Fits : List PageRows → PageTitle → Reach → ℕ → ℕ → ℕ → Type 0
Fits stored title reach above a page = ((a ≤ page) × (above < page)) × (names (unwrap_or (slice_get stored (page - a)) no_rows) title reach ≡ true)

module _ (title : PageTitle) (reach : Reach) (above : ℕ) where
  wider : (x : PageRows) (stored : List PageRows) (a : ℕ) (pages : List ℕ) → AllByRecursion (Fits stored title reach above (a + 1)) pages → AllByRecursion (Fits (x ∷ stored) title reach above a) pages
  wider x stored a [] all = tt
  wider x stored a (page ∷ pages) all =
      let low = all.0.0.0 in
      let one : page - a ≡ suc (page - (a + 1)) = omega (arith, low) in
      (((omega (arith, low), all.0.0.1), rw one all.0.1), wider x stored a pages all.1)

  pub found-fits : (a : ℕ) (stored : List PageRows) → AllByRecursion (Fits stored title reach above a) (found (uses title reach above) a stored)
  found-fits a [] = tt
  found-fits a (x ∷ stored) = elim (cases_Bool (uses title reach above (a, x))) [
    | inl fits ↦
        let parts = and_parts (ltb above a) (names x title reach) fits in
        let none : a - a ≡ 0 = omega arith in
        rw fits (((omega arith, ltb-true above a parts.0), rw none parts.1), wider x stored a (found (uses title reach above) (a + 1) stored) (found-fits (a + 1) stored))
    | inr fails ↦ rw fails (wider x stored a (found (uses title reach above) (a + 1) stored) (found-fits (a + 1) stored))
  ]

  -- the first is below all others
  from : (a : ℕ) (stored : List PageRows) (pages : List ℕ) → AllByRecursion (Fits stored title reach above (a + 1)) pages → AllByRecursion (λ page. a < page) pages
  from a stored [] all = tt
  from a stored (page ∷ pages) all = let low = all.0.0.0 in (omega (arith, low), from a stored pages all.1)

taken : (P : ℕ → Type 0) (most : ℕ) (pages : List ℕ) → AllByRecursion P pages → AllByRecursion P (take most pages)
taken P zero [] all = tt
taken P zero (page ∷ pages) all = tt
taken P (suc most) [] all = tt
taken P (suc most) (page ∷ pages) all = (all.0, taken P most pages all.1)

abbrev pub Rises : List ℕ → Type 0
Rises [] = Unit {0}
Rises (page ∷ pages) = AllByRecursion (λ later. page < later) pages × Rises pages

pub found-rises : (title : PageTitle) (reach : Reach) (above a : ℕ) (stored : List PageRows) → Rises (found (uses title reach above) a stored)
found-rises title reach above a [] = tt
found-rises title reach above a (x ∷ stored) = elim (cases_Bool (uses title reach above (a, x))) [
  | inl fits ↦ rw fits (from title reach above a stored (found (uses title reach above) (a + 1) stored) (found-fits title reach above (a + 1) stored), found-rises title reach above (a + 1) stored)
  | inr fails ↦ rw fails (found-rises title reach above (a + 1) stored)
]

taken-rises : (most : ℕ) (pages : List ℕ) → Rises pages → Rises (take most pages)
taken-rises zero [] up = tt
taken-rises zero (page ∷ pages) up = tt
taken-rises (suc most) [] up = tt
taken-rises (suc most) (page ∷ pages) up = (taken (λ later. page < later) most pages up.0, taken-rises most pages up.1)

pub pairs : (pages : List ℕ) → Rises pages → AllPairs (λ (a b : ℕ). a < b) pages
pairs [] up = λ i j d before within. absurd (omega (arith, within))
pairs (page ∷ pages) up = AllPairs-cons (λ (a b : ℕ). a < b) page pages (All-from_recursion (λ later. page < later) pages up.0) (pairs pages up.1)

-- ---- what a fan serves

pub stored-row : (state : State) (number : ℕ) → 1 ≤ number → stored_at state number ≡ unwrap_or (slice_get state.stored (number - 1)) no_rows
stored-row state number positive = let more : eqb number 0 ≡ false = ne_eqb number 0 (λ none. omega (arith, none, positive)) in rw more refl

abbrev Served : State → PageTitle → Reach → ℕ → ℕ → Type 0
Served state title reach above page = (above < page) × (names (stored_at state page) title reach ≡ true)

users-serve : (state : State) (title : PageTitle) (reach : Reach) (above most : ℕ) → AllByRecursion (Served state title reach above) (users state.stored title reach above most)
users-serve state title reach above most =
    subst (λ (ns : List ℕ). AllByRecursion (Served state title reach above) ns) (sym (users-is state.stored title reach above most))
    (taken (Served state title reach above) most (found (uses title reach above) 1 state.stored) (plain (found (uses title reach above) 1 state.stored) (found-fits title reach above 1 state.stored)))
  where
    plain : (pages : List ℕ) → AllByRecursion (Fits state.stored title reach above 1) pages → AllByRecursion (Served state title reach above) pages
    plain [] all = tt
    plain (page ∷ pages) all = ((all.0.0.1, rw (stored-row state page all.0.0.0) all.0.1), plain pages all.1)

pub users-named : (state : State) (title : PageTitle) (reach : Reach) (above most : ℕ) → All (λ page. (above < page) × (names (stored_at state page) title reach ≡ true)) (users state.stored title reach above most)
users-named state title reach above most = All-from_recursion (Served state title reach above) (users state.stored title reach above most) (users-serve state title reach above most)

pub users-rise : (state : State) (title : PageTitle) (reach : Reach) (above most : ℕ) → AllPairs (λ (a b : ℕ). a < b) (users state.stored title reach above most)
users-rise state title reach above most =
    subst (λ (ns : List ℕ). AllPairs (λ (a b : ℕ). a < b) ns) (sym (users-is state.stored title reach above most))
    (pairs (take most (found (uses title reach above) 1 state.stored)) (taken-rises most (found (uses title reach above) 1 state.stored) (found-rises title reach above 1 state.stored)))

-- ---- what becomes of the job

pub next-is : (most : ℕ) (state next : State) (journal : ℕ) (fan : FanEntry) → first_fan state.jobs ≡ Some fan → step_by most state journal Fan ≡ Some next → next ≡ with_jobs state (after_serving state.stored most state.jobs fan)
next-is most state next journal fan = by (first_fan state.jobs)
  where
    by : (o : Option FanEntry) → o ≡ Some fan → option_map (λ jobs. with_jobs state jobs) (option_map (after_serving state.stored most state.jobs) o) ≡ Some next → next ≡ with_jobs state (after_serving state.stored most state.jobs fan)
    by None none e = absurd cc
    by (Some x) is e =
        let one : x ≡ fan = cc in
        let same : with_jobs state (after_serving state.stored most state.jobs x) ≡ next = (let some : Some (with_jobs state (after_serving state.stored most state.jobs x)) ≡ Some next = e in cc) in
        sym same ∙ ap (λ (f : FanEntry). with_jobs state (after_serving state.stored most state.jobs f)) one

kept-refreshes : (gone : Bool) (queued : JobLists) (cursor : ℕ) → (cond gone (fan_dropped queued) (fan_moved queued cursor)).refreshes ≡ queued.refreshes
kept-refreshes true queued cursor = refl
kept-refreshes false queued cursor = refl

pub fan-queues : (most : ℕ) (state next : State) (journal : ℕ) (fan : FanEntry) → first_fan state.jobs ≡ Some fan → step_by most state journal Fan ≡ Some next
    → next.jobs.refreshes ≡ (all_queued state.jobs (next_served state.stored most fan)).refreshes
fan-queues most state next journal fan first done =
    let served = next_served state.stored most fan in
    let cursor = cursor_behind served fan.cursor in
    ap (λ (s : State). s.jobs.refreshes) (next-is most state next journal fan first done)
    ∙ kept-refreshes (eqb (length (users state.stored fan.title fan.reach cursor 1)) 0) (all_queued state.jobs served) cursor

pub fans-after : (most : ℕ) (state next : State) (journal : ℕ) (fan : FanEntry) (cursor : ℕ) (gone : Bool) → first_fan state.jobs ≡ Some fan → step_by most state journal Fan ≡ Some next
    → cursor ≡ cursor_behind (next_served state.stored most fan) fan.cursor
    → eqb (length (users state.stored fan.title fan.reach cursor 1)) 0 ≡ gone
    → next.jobs.fans ≡ cond gone (drop 1 state.jobs.fans) (with_first_cursor state.jobs.fans cursor)
fans-after most state next journal fan cursor gone first done at is =
    ap (λ (s : State). s.jobs.fans) (next-is most state next journal fan first done)
    ∙ ap (λ (c : ℕ). (cond (eqb (length (users state.stored fan.title fan.reach c 1)) 0) (fan_dropped queued) (fan_moved queued c)).fans) (sym at)
    ∙ ap (λ (b : Bool). (cond b (fan_dropped queued) (fan_moved queued cursor)).fans) is
    ∙ both gone
  where
    queued : JobLists
    queued = all_queued state.jobs (next_served state.stored most fan)

    same : queued.fans ≡ state.jobs.fans
    same = fans-all_queued state.jobs (next_served state.stored most fan)

    both : (b : Bool) → (cond b (fan_dropped queued) (fan_moved queued cursor)).fans ≡ cond b (drop 1 state.jobs.fans) (with_first_cursor state.jobs.fans cursor)
    both true = ap (λ (fans : List FanEntry). drop 1 fans) same
    both false = ap (λ (fans : List FanEntry). with_first_cursor fans cursor) same

none-left : (state : State) (title : PageTitle) (reach : Reach) (above : ℕ) → ((page : ℕ) → above < page → names (stored_at state page) title reach ≡ false) → eqb (length (users state.stored title reach above 1)) 0 ≡ true
none-left state title reach above none = by (users state.stored title reach above 1) (users-serve state title reach above 1)
  where
    by : (ns : List ℕ) → AllByRecursion (Served state title reach above) ns → eqb (length ns) 0 ≡ true
    by [] all = refl
    by (n ∷ ns) all = absurd (both_ways (names (stored_at state n) title reach) (none n all.0.0) all.0.1)

pub fan-ends : (most : ℕ) (state next : State) (journal : ℕ) (fan : FanEntry) (cursor : ℕ) → first_fan state.jobs ≡ Some fan → step_by most state journal Fan ≡ Some next
    → cursor ≡ cursor_behind (next_served state.stored most fan) fan.cursor
    → ((page : ℕ) → cursor < page → names (stored_at state page) fan.title fan.reach ≡ false)
    → next.jobs.fans ≡ drop 1 state.jobs.fans
fan-ends most state next journal fan cursor first done at none =
    fans-after most state next journal fan cursor true first done at (none-left state fan.title fan.reach cursor none)

pub nothing-named : (title : PageTitle) (reach : Reach) → names no_rows title reach ≡ false
nothing-named title Text = refl
nothing-named title Both = refl

one-left : (state : State) (title : PageTitle) (reach : Reach) (above page : ℕ) → above < page → names (stored_at state page) title reach ≡ true → eqb (length (users state.stored title reach above 1)) 0 ≡ false
one-left state title reach above page low named =
    by (slice_get state.stored (page - 1)) refl (rw (stored-row state page (omega (arith, low))) at named)
  where
    by : (o : Option PageRows) → slice_get state.stored (page - 1) ≡ o → names (unwrap_or o no_rows) title reach ≡ true → eqb (length (users state.stored title reach above 1)) 0 ≡ false
    by None at there = absurd (both_ways (names no_rows title reach) (nothing-named title reach) there)
    by (Some links) at there =
        ap (λ (ns : List ℕ). eqb (length ns) 0) (users-is state.stored title reach above 1)
        ∙ some-first (λ n. eqb n page) (found (uses title reach above) 1 state.stored)
        (is-found (uses title reach above) page links (and_from (ltb above page) (names links title reach) (lt-ltb above page low) there) 1 state.stored (omega (arith, low)) at)

pub fan-stands : (most : ℕ) (state next : State) (journal : ℕ) (fan : FanEntry) (cursor page : ℕ) → first_fan state.jobs ≡ Some fan → step_by most state journal Fan ≡ Some next
    → cursor ≡ cursor_behind (next_served state.stored most fan) fan.cursor
    → cursor < page → names (stored_at state page) fan.title fan.reach ≡ true
    → next.jobs.fans ≡ with_first_cursor state.jobs.fans cursor
fan-stands most state next journal fan cursor page first done at low named =
    fans-after most state next journal fan cursor false first done at (one-left state fan.title fan.reach cursor page low named)
