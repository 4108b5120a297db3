-- Fans one after the other serve each page that names the title.
use Rattle.std.proofs.Common.{◌≡◌, ℕ, zero, suc, ◌+◌, ◌-◌, ◌≤◌, ◌<◌, Bool, true, false, cond, eqb, ltb, ◌&&◌, List, [], ◌∷◌, ◌++◌, length, drop, take, unwrap_or, Option, Some, None, refl, sym, ap, ◌∙◌, inl, inr, subst, arith, length-drop}
use Rattle.std.specs.Prelude.{AllPairs, slice_get, option_map}
use Rattle.std.specs.List.{AllByRecursion, filter, list_any, last_or}
use Rattle.std.proofs.lemmas.Bool.{cases_Bool, and_parts, and_from, both_ways, ltb-true, ltb-false, lt-ltb, le-ltb, eqb-true}
use Rattle.std.proofs.lemmas.List.{take-append-drop}
use Rattle.wk_text_rules.specs.Titles.{PageTitle}
use Rattle.wk_page_rules.specs.declared.Reach.{Reach}
use Rattle.wk_page_rules.specs.PageRows.{PageRows, no_rows, names}
use Rattle.wk_wiki_rules.specs.Jobs.{FanEntry, JobLists, has_refresh, refresh_queued, first_fan, with_first_cursor, fan_moved, fan_dropped}
use Rattle.wk_wiki_rules.specs.Steps.{all_queued, after_serving, cursor_behind, next_served}
use Rattle.wk_wiki_rules.specs.Users.{users}
use Rattle.wk_wiki_rules.specs.States.{State, stored_at}
use Rattle.wk_wiki_rules.specs.Events.{Fan, with_jobs, step_by}
use Rattle.wk_wiki_laws.specs.FanRuns.{FanRun, ends, goes_on}
use Rattle.wk_wiki_laws.proofs.Served.{found, uses, users-is, is-found, is-served}
use Rattle.wk_wiki_laws.proofs.FanServes.{Fits, Rises, found-fits, found-rises, pairs, next-is, fans-after, stored-row, nothing-named}

-- ---- lists that rise

no-lower : (d : ℕ) (o : Option ℕ) (ns : List ℕ) → Rises ns → AllByRecursion (λ n. unwrap_or o d < n) ns → unwrap_or o d ≤ unwrap_or (last_or o ns) d
no-lower d o [] up above = omega arith
no-lower d o (n ∷ ns) up above = let later = no-lower d (Some n) ns up.1 up.0 in let first = above.0 in omega (arith, later, first)

taken-each : (P : ℕ → Type 0) (most : ℕ) (ns : List ℕ) → AllByRecursion P ns → AllByRecursion P (take most ns)
taken-each P zero [] all = tt
taken-each P zero (n ∷ ns) all = tt
taken-each P (suc most) [] all = tt
taken-each P (suc most) (n ∷ ns) all = (all.0, taken-each P most ns all.1)

taken-up : (most : ℕ) (ns : List ℕ) → Rises ns → Rises (take most ns)
taken-up zero [] up = tt
taken-up zero (n ∷ ns) up = tt
taken-up (suc most) [] up = tt
taken-up (suc most) (n ∷ ns) up = (taken-each (λ later. n < later) most ns up.0, taken-up most ns up.1)

all-pass : (c : ℕ) (ns : List ℕ) → AllByRecursion (λ n. c < n) ns → filter (ltb c) ns ≡ ns
all-pass c [] all = refl
all-pass c (n ∷ ns) all = rw (lt-ltb c n all.0) (ap (λ ms. n ∷ ms) (all-pass c ns all.1))

-- the numbers above the last of the first so many are the others
rest-above : (d : ℕ) (o : Option ℕ) (most : ℕ) (ns : List ℕ) → Rises ns → AllByRecursion (λ n. unwrap_or o d < n) ns → filter (ltb (unwrap_or (last_or o (take most ns)) d)) ns ≡ drop most ns
rest-above d o zero [] up above = refl
rest-above d o (suc most) [] up above = refl
rest-above d o zero (n ∷ ns) up above = all-pass (unwrap_or o d) (n ∷ ns) above
rest-above d o (suc most) (n ∷ ns) up above =
    let high = no-lower d (Some n) (take most ns) (taken-up most ns up.1) (taken-each (λ later. n < later) most ns up.0) in
    rw (le-ltb (unwrap_or (last_or (Some n) (take most ns)) d) n high) (rest-above d (Some n) most ns up.1 up.0)

filter-twice : (d c : ℕ) → d ≤ c → (ns : List ℕ) → filter (ltb c) (filter (ltb d) ns) ≡ filter (ltb c) ns
filter-twice d c low [] = refl
filter-twice d c low (n ∷ ns) = elim (cases_Bool (ltb d n)) [
  | inl past ↦ rw past (ap (λ ms. cond (ltb c n) (n ∷ ms) ms) (filter-twice d c low ns))
  | inr before ↦
      let not_past = ltb-false d n before in
      rw (before, le-ltb c n (omega (arith, not_past, low))) (filter-twice d c low ns)
]

-- ---- the pages that name a title

named : PageTitle → Reach → ℕ × PageRows → Bool
named title reach page = names page.1 title reach

found-filter : (title : PageTitle) (reach : Reach) (above a : ℕ) (stored : List PageRows) → found (uses title reach above) a stored ≡ filter (ltb above) (found (named title reach) a stored)
unfolding named
found-filter title reach above a [] = refl
found-filter title reach above a (x ∷ stored) = elim (cases_Bool (names x title reach)) [
  | inl is ↦ elim (cases_Bool (ltb above a)) [
    | inl past ↦ rw (is, past) (ap (λ ns. a ∷ ns) (found-filter title reach above (a + 1) stored))
    | inr before ↦ rw (is, before) (found-filter title reach above (a + 1) stored)
  ]
  | inr not_named ↦ elim (cases_Bool (ltb above a)) [
    | inl past ↦ rw (not_named, past) (found-filter title reach above (a + 1) stored)
    | inr before ↦ rw (not_named, before) (found-filter title reach above (a + 1) stored)
  ]
]

above-each : (title : PageTitle) (reach : Reach) (above : ℕ) (stored : List PageRows) (ns : List ℕ) → AllByRecursion (Fits stored title reach above 1) ns → AllByRecursion (λ n. above < n) ns
above-each title reach above stored [] all = tt
above-each title reach above stored (n ∷ ns) all = (all.0.0.1, above-each title reach above stored ns all.1)

abbrev all_of : List PageRows → FanEntry → List ℕ
all_of stored fan = found (uses fan.title fan.reach fan.cursor) 1 stored

abbrev cursor_after : ℕ → List PageRows → FanEntry → ℕ
cursor_after most stored fan = cursor_behind (next_served stored most fan) fan.cursor

all-above : (stored : List PageRows) (fan : FanEntry) → AllByRecursion (λ n. fan.cursor < n) (all_of stored fan)
all-above stored fan = above-each fan.title fan.reach fan.cursor stored (all_of stored fan) (found-fits fan.title fan.reach fan.cursor 1 stored)

all-rise : (stored : List PageRows) (fan : FanEntry) → Rises (all_of stored fan)
all-rise stored fan = found-rises fan.title fan.reach fan.cursor 1 stored

left-behind : (most : ℕ) (stored : List PageRows) (fan : FanEntry) → found (uses fan.title fan.reach (cursor_after most stored fan)) 1 stored ≡ drop most (all_of stored fan)
left-behind most stored fan =
    found-filter fan.title fan.reach cursor 1 stored
    ∙ sym (filter-twice fan.cursor cursor low (found (named fan.title fan.reach) 1 stored))
    ∙ ap (filter (ltb cursor)) (sym (found-filter fan.title fan.reach fan.cursor 1 stored))
    ∙ ap (λ c. filter (ltb c) (all_of stored fan)) at
    ∙ rest-above fan.cursor None most (all_of stored fan) (all-rise stored fan) (all-above stored fan)
  where
    cursor : ℕ
    cursor = cursor_after most stored fan

    at : cursor ≡ cursor_behind (take most (all_of stored fan)) fan.cursor
    at = ap (λ ns. cursor_behind ns fan.cursor) (users-is stored fan.title fan.reach fan.cursor most)

    low : fan.cursor ≤ cursor
    low = let high = no-lower fan.cursor None (take most (all_of stored fan)) (taken-up most (all_of stored fan) (all-rise stored fan)) (taken-each (λ n. fan.cursor < n) most (all_of stored fan) (all-above stored fan)) in
        omega (arith, high, at)

-- ---- one fan of a run

-- no page is left, or some are
abbrev gone_after : ℕ → State → FanEntry → Bool
gone_after most state fan = eqb (length (users state.stored fan.title fan.reach (cursor_after most state.stored fan) 1)) 0

left-is : (most : ℕ) (state : State) (fan : FanEntry) → users state.stored fan.title fan.reach (cursor_after most state.stored fan) 1 ≡ take 1 (drop most (all_of state.stored fan))
left-is most state fan = users-is state.stored fan.title fan.reach (cursor_after most state.stored fan) 1 ∙ ap (take 1) (left-behind most state.stored fan)

none-left : (ns : List ℕ) → eqb (length (take 1 ns)) 0 ≡ true → ns ≡ []
none-left [] none = refl
none-left (n ∷ ns) none = absurd (let e = eqb-true (length (take 1 (n ∷ ns))) 0 none in omega (arith, e))

some-left : (ns : List ℕ) → eqb (length (take 1 ns)) 0 ≡ false → 1 ≤ length ns
some-left [] some = absurd (let e : true ≡ false = some in cc)
some-left (n ∷ ns) some = omega arith

length-moved : (fans : List FanEntry) (cursor : ℕ) → length (with_first_cursor fans cursor) ≡ length fans
length-moved [] cursor = refl
length-moved (fan ∷ fans) cursor = refl

length-dropped : (fans : List FanEntry) (fan : FanEntry) → slice_get fans 0 ≡ Some fan → length (drop 1 fans) + 1 ≡ length fans
length-dropped [] fan first = absurd (let e : None ≡ Some fan = first in cc)
length-dropped (x ∷ fans) fan first = omega arith

module _ (most : ℕ) (state next : State) (journal : ℕ) (fan : FanEntry) (first : first_fan state.jobs ≡ Some fan) (done : step_by most state journal Fan ≡ Some next) where
  after : (gone : Bool) → gone_after most state fan ≡ gone → next.jobs.fans ≡ cond gone (drop 1 state.jobs.fans) (with_first_cursor state.jobs.fans (cursor_after most state.stored fan))
  after gone is = fans-after most state next journal fan (cursor_after most state.stored fan) gone first done refl is

  is-gone : length next.jobs.fans + 1 ≡ length state.jobs.fans → gone_after most state fan ≡ true
  is-gone fewer = elim (cases_Bool (gone_after most state fan)) [
    | inl gone ↦ gone
    | inr stays ↦
        let same = ap (λ (fans : List FanEntry). length fans) (after false stays) ∙ length-moved state.jobs.fans (cursor_after most state.stored fan) in
        absurd (omega (arith, fewer, same))
  ]

  stays : length next.jobs.fans ≡ length state.jobs.fans → gone_after most state fan ≡ false
  stays as_many = elim (cases_Bool (gone_after most state fan)) [
    | inl gone ↦
        let less = ap (λ (fans : List FanEntry). length fans) (after true gone) in
        let one = length-dropped state.jobs.fans fan first in
        absurd (omega (arith, as_many, less, one))
    | inr there ↦ there
  ]

  stored-same : next.stored ≡ state.stored
  stored-same = ap (λ (s : State). s.stored) (next-is most state next journal fan first done)

  all-last : length next.jobs.fans + 1 ≡ length state.jobs.fans → next_served state.stored most fan ≡ all_of state.stored fan
  all-last fewer =
      let none : drop most (all_of state.stored fan) ≡ [] = none-left (drop most (all_of state.stored fan)) (ap (λ ns. eqb (length ns) 0) (sym (left-is most state fan)) ∙ is-gone fewer) in
      users-is state.stored fan.title fan.reach fan.cursor most
      ∙ sym (append-none (take most (all_of state.stored fan)))
      ∙ ap (λ ns. take most (all_of state.stored fan) ++ ns) (sym none)
      ∙ take-append-drop most (all_of state.stored fan)
    where
      append-none : (ns : List ℕ) → ns ++ [] ≡ ns
      append-none [] = refl
      append-none (n ∷ ns) = ap (λ ms. n ∷ ms) (append-none ns)

  moved-first : length next.jobs.fans ≡ length state.jobs.fans → first_fan next.jobs ≡ Some (record fan { cursor = cursor_after most state.stored fan })
  moved-first as_many = ap (λ (fans : List FanEntry). slice_get fans 0) (after false (stays as_many)) ∙ by state.jobs.fans first
    where
      by : (fans : List FanEntry) → slice_get fans 0 ≡ Some fan → slice_get (with_first_cursor fans (cursor_after most state.stored fan)) 0 ≡ Some (record fan { cursor = cursor_after most state.stored fan })
      by [] none = absurd (let e : None ≡ Some fan = none in cc)
      by (x ∷ fans) there =
          let is : x ≡ fan = (let e : Some x ≡ Some fan = there in cc) in
          ap (λ (f : FanEntry). Some (record f { cursor = cursor_after most state.stored fan })) is

  all-next : next_served state.stored most fan ++ found (uses fan.title fan.reach (cursor_after most state.stored fan)) 1 next.stored ≡ all_of state.stored fan
  all-next =
      ap (λ ns. ns ++ found (uses fan.title fan.reach (cursor_after most state.stored fan)) 1 next.stored) (users-is state.stored fan.title fan.reach fan.cursor most)
      ∙ ap (λ (stored : List PageRows). take most (all_of state.stored fan) ++ found (uses fan.title fan.reach (cursor_after most state.stored fan)) 1 stored) stored-same
      ∙ ap (λ ns. take most (all_of state.stored fan) ++ ns) (left-behind most state.stored fan)
      ∙ take-append-drop most (all_of state.stored fan)

-- ---- a run

same-fan : (o : Option FanEntry) (a b : FanEntry) → o ≡ Some a → o ≡ Some b → a ≡ b
same-fan o a b one other = let e : Some a ≡ Some b = sym one ∙ other in cc

run-all : (most : ℕ) (state last : State) (journal : ℕ) (pages : List ℕ) (fan : FanEntry) → first_fan state.jobs ≡ Some fan → FanRun most state journal pages last → pages ≡ all_of state.stored fan
run-all most state last journal pages fan first (ends {fan = served} there done fewer) =
    subst (λ (f : FanEntry). next_served state.stored most served ≡ all_of state.stored f) (same-fan (first_fan state.jobs) served fan there first) (all-last most state last journal served there done fewer)
run-all most state last journal pages fan first (goes_on {next = next} {fan = served} {pages = others} there done as_many later) =
    subst (λ (f : FanEntry). next_served state.stored most served ++ others ≡ all_of state.stored f) (same-fan (first_fan state.jobs) served fan there first)
    (ap (λ ns. next_served state.stored most served ++ ns)
    (run-all most next last (journal + 1) others (record served { cursor = cursor_after most state.stored served }) (moved-first most state next journal served there done as_many) later)
    ∙ all-next most state next journal served there done)

taken-all : (n : ℕ) (ns : List ℕ) → length ns ≤ n → take n ns ≡ ns
taken-all zero [] within = refl
taken-all zero (x ∷ ns) within = absurd (omega (arith, within))
taken-all (suc n) [] within = refl
taken-all (suc n) (x ∷ ns) within = ap (λ ms. x ∷ ms) (taken-all n ns (omega (arith, within)))

pub found-few : (p : ℕ × PageRows → Bool) (a : ℕ) (stored : List PageRows) → length (found p a stored) ≤ length stored
found-few p a [] = omega arith
found-few p a (x ∷ stored) = let few = found-few p (a + 1) stored in elim (cases_Bool (p (a, x))) [
  | inl fits ↦ rw fits (omega (arith, few))
  | inr fails ↦ rw fails (omega (arith, few))
]

pub run-serves : (most : ℕ) (state last : State) (journal : ℕ) (fan : FanEntry) (pages : List ℕ) → first_fan state.jobs ≡ Some fan → FanRun most state journal pages last → pages ≡ users state.stored fan.title fan.reach fan.cursor (length state.stored)
run-serves most state last journal fan pages first run =
    run-all most state last journal pages fan first run
    ∙ sym (taken-all (length state.stored) (all_of state.stored fan) (found-few (uses fan.title fan.reach fan.cursor) 1 state.stored))
    ∙ sym (users-is state.stored fan.title fan.reach fan.cursor (length state.stored))

pub run-rises : (most : ℕ) (state last : State) (journal : ℕ) (pages : List ℕ) → FanRun most state journal pages last → AllPairs (λ (a b : ℕ). a < b) pages
run-rises most state last journal pages run = by (first_fan state.jobs) refl run
  where
    of : (fan : FanEntry) → first_fan state.jobs ≡ Some fan → FanRun most state journal pages last → AllPairs (λ (a b : ℕ). a < b) pages
    of fan first whole = subst (λ (ns : List ℕ). AllPairs (λ (a b : ℕ). a < b) ns) (sym (run-all most state last journal pages fan first whole)) (pairs (all_of state.stored fan) (all-rise state.stored fan))

    begins : {ns : List ℕ} → FanRun most state journal ns last → (fan : FanEntry) × (first_fan state.jobs ≡ Some fan)
    begins (ends {fan = fan} there done fewer) = (fan, there)
    begins (goes_on {fan = fan} there done as_many later) = (fan, there)

    by : (o : Option FanEntry) → first_fan state.jobs ≡ o → FanRun most state journal pages last → AllPairs (λ (a b : ℕ). a < b) pages
    by (Some fan) first whole = of fan first whole
    by None none whole = let got = begins whole in of got.0 got.1 whole

-- ---- which pages

got-at : (stored : List PageRows) (place : ℕ) (title : PageTitle) (reach : Reach) → names (unwrap_or (slice_get stored place) no_rows) title reach ≡ true
    → (links : PageRows) × ((slice_get stored place ≡ Some links) × (names links title reach ≡ true))
got-at stored place title reach = by (slice_get stored place) refl
  where
    by : (o : Option PageRows) → slice_get stored place ≡ o → names (unwrap_or o no_rows) title reach ≡ true → (links : PageRows) × ((slice_get stored place ≡ Some links) × (names links title reach ≡ true))
    by (Some links) at is = (links, (at, is))
    by None at is = absurd (both_ways (names no_rows title reach) (nothing-named title reach) is)

pub none-missed : (state : State) (title : PageTitle) (reach : Reach) (above most page : ℕ) → above < page → page ≤ cursor_behind (users state.stored title reach above most) above → names (stored_at state page) title reach ≡ true
    → list_any (λ served. eqb served page) (users state.stored title reach above most) ≡ true
none-missed state title reach above most page low high is =
    let got = got-at state.stored (page - 1) title reach (rw (stored-row state page (omega (arith, low))) at is) in
    subst (λ (ns : List ℕ). list_any (λ served. eqb served page) ns ≡ true) (sym (users-is state.stored title reach above most))
    (is-served (uses title reach above) page got.0 (and_from (ltb above page) (names got.0 title reach) (lt-ltb above page low) got.1.1) 1 state.stored most None above (omega (arith, low)) got.1.0 low
    (subst (λ (ns : List ℕ). page ≤ cursor_behind ns above) (users-is state.stored title reach above most) high))

at-one : (P : ℕ → Type 0) (page : ℕ) (ns : List ℕ) → AllByRecursion P ns → list_any (λ n. eqb n page) ns ≡ true → P page
at-one P page [] all there = absurd (let e : false ≡ true = there in cc)
at-one P page (n ∷ ns) all there = elim (cases_Bool (eqb n page)) [
  | inl same ↦ subst P (eqb-true n page same) all.0
  | inr other ↦ at-one P page ns all.1 (rw other at there)
]

same-truth : (a b : Bool) → (a ≡ true → b ≡ true) → (b ≡ true → a ≡ true) → a ≡ b
same-truth true b one other = sym (one refl)
same-truth false true one other = absurd (let e : false ≡ true = other refl in cc)
same-truth false false one other = refl

pub run-exact : (most : ℕ) (state last : State) (journal : ℕ) (fan : FanEntry) (pages : List ℕ) (page : ℕ) → first_fan state.jobs ≡ Some fan → FanRun most state journal pages last
    → list_any (λ served. eqb served page) pages ≡ (ltb fan.cursor page && names (stored_at state page) fan.title fan.reach)
run-exact most state last journal fan pages page first run =
    ap (λ (ns : List ℕ). list_any (λ served. eqb served page) ns) (run-all most state last journal pages fan first run)
    ∙ same-truth (list_any (λ served. eqb served page) (all_of state.stored fan)) (ltb fan.cursor page && names (stored_at state page) fan.title fan.reach) only all
  where
    only : list_any (λ served. eqb served page) (all_of state.stored fan) ≡ true → (ltb fan.cursor page && names (stored_at state page) fan.title fan.reach) ≡ true
    only there =
        let fits = at-one (Fits state.stored fan.title fan.reach fan.cursor 1) page (all_of state.stored fan) (found-fits fan.title fan.reach fan.cursor 1 state.stored) there in
        and_from (ltb fan.cursor page) (names (stored_at state page) fan.title fan.reach) (lt-ltb fan.cursor page fits.0.1) (rw (stored-row state page fits.0.0) fits.1)

    all : (ltb fan.cursor page && names (stored_at state page) fan.title fan.reach) ≡ true → list_any (λ served. eqb served page) (all_of state.stored fan) ≡ true
    all both =
        let parts = and_parts (ltb fan.cursor page) (names (stored_at state page) fan.title fan.reach) both in
        let low = ltb-true fan.cursor page parts.0 in
        let got = got-at state.stored (page - 1) fan.title fan.reach (rw (stored-row state page (omega (arith, low))) at parts.1) in
        is-found (uses fan.title fan.reach fan.cursor) page got.0 (and_from (ltb fan.cursor page) (names got.0 fan.title fan.reach) parts.0 got.1.1) 1 state.stored (omega (arith, low)) got.1.0

-- ---- what a run does to the jobs

queued-beside : (lists : JobLists) (fans : List FanEntry) (page : ℕ) → refresh_queued (record lists { fans = fans }) page ≡ record (refresh_queued lists page) { fans = fans }
queued-beside lists fans page = elim (cases_Bool (has_refresh lists page)) [ inl there ↦ rw there refl | inr none ↦ rw none refl ]

all-beside : (lists : JobLists) (fans : List FanEntry) (pages : List ℕ) → all_queued (record lists { fans = fans }) pages ≡ record (all_queued lists pages) { fans = fans }
all-beside lists fans [] = refl
all-beside lists fans (page ∷ pages) = ap (λ (l : JobLists). all_queued l pages) (queued-beside lists fans page) ∙ all-beside (refresh_queued lists page) fans pages

all-append : (lists : JobLists) (pages more : List ℕ) → all_queued lists (pages ++ more) ≡ all_queued (all_queued lists pages) more
all-append lists [] more = refl
all-append lists (page ∷ pages) more = all-append (refresh_queued lists page) pages more

jobs-after : (most : ℕ) (state next : State) (journal : ℕ) (fan : FanEntry) → first_fan state.jobs ≡ Some fan → step_by most state journal Fan ≡ Some next → next.jobs ≡ record (all_queued state.jobs (next_served state.stored most fan)) { fans = next.jobs.fans }
jobs-after most state next journal fan first done =
    let is = ap (λ (s : State). s.jobs) (next-is most state next journal fan first done) in
    is ∙ by (gone_after most state fan) ∙ ap (λ (l : JobLists). record (all_queued state.jobs (next_served state.stored most fan)) { fans = l.fans }) (sym is)
  where
    by : (gone : Bool) → cond gone (fan_dropped (all_queued state.jobs (next_served state.stored most fan))) (fan_moved (all_queued state.jobs (next_served state.stored most fan)) (cursor_after most state.stored fan))
        ≡ record (all_queued state.jobs (next_served state.stored most fan)) { fans = (cond gone (fan_dropped (all_queued state.jobs (next_served state.stored most fan))) (fan_moved (all_queued state.jobs (next_served state.stored most fan)) (cursor_after most state.stored fan))).fans }
    by true = refl
    by false = refl

pub run-queues : (most : ℕ) (state last : State) (journal : ℕ) (pages : List ℕ) → FanRun most state journal pages last → last.jobs.refreshes ≡ (all_queued state.jobs pages).refreshes
run-queues most state last journal pages (ends {fan = fan} there done fewer) = ap (λ (l : JobLists). l.refreshes) (jobs-after most state last journal fan there done)
run-queues most state last journal pages (goes_on {next = next} {fan = fan} {pages = others} there done as_many later) =
    run-queues most next last (journal + 1) others later
    ∙ ap (λ (l : JobLists). (all_queued l others).refreshes) (jobs-after most state next journal fan there done)
    ∙ ap (λ (l : JobLists). l.refreshes) (all-beside (all_queued state.jobs (next_served state.stored most fan)) next.jobs.fans others)
    ∙ ap (λ (l : JobLists). l.refreshes) (sym (all-append state.jobs (next_served state.stored most fan) others))

dropped-moved : (fans : List FanEntry) (cursor : ℕ) → drop 1 (with_first_cursor fans cursor) ≡ drop 1 fans
dropped-moved [] cursor = refl
dropped-moved (fan ∷ fans) cursor = refl

pub run-ends_job : (most : ℕ) (state last : State) (journal : ℕ) (pages : List ℕ) → FanRun most state journal pages last → last.jobs.fans ≡ drop 1 state.jobs.fans
run-ends_job most state last journal pages (ends {fan = fan} there done fewer) =
    after most state last journal fan there done true (is-gone most state last journal fan there done fewer)
run-ends_job most state last journal pages (goes_on {next = next} {fan = fan} {pages = others} there done as_many later) =
    run-ends_job most next last (journal + 1) others later
    ∙ ap (λ (fans : List FanEntry). drop 1 fans) (after most state next journal fan there done false (stays most state next journal fan there done as_many))
    ∙ dropped-moved state.jobs.fans (cursor_after most state.stored fan)

-- ---- there is a run

length-rest : (most : ℕ) (ns : List ℕ) → 1 ≤ most → 1 ≤ length (drop most ns) → length (drop most ns) < length ns
length-rest most [] positive some = absurd (let e = length-drop {A = ℕ} most [] in omega (arith, some, e))
length-rest most (n ∷ ns) positive some = let e = length-drop {A = ℕ} most (n ∷ ns) in omega (arith, positive, some, e)

ends-by : (most n : ℕ) (state : State) (journal : ℕ) (fan : FanEntry) → 1 ≤ most → first_fan state.jobs ≡ Some fan → length (all_of state.stored fan) < n → (pages : List ℕ) × ((last : State) × FanRun most state journal pages last)
ends-by most zero state journal fan positive first below = absurd (omega (arith, below))
ends-by most (suc n) state journal fan positive first below = elim (cases_Bool (gone_after most state fan)) [
  | inl gone ↦
      let less = ap (λ (fans : List FanEntry). length fans) (after most state next journal fan first done true gone) in
      let one = length-dropped state.jobs.fans fan first in
      (next_served state.stored most fan, (next, ends first done (omega (arith, less, one))))
  | inr there ↦
      let as_many = ap (λ (fans : List FanEntry). length fans) (after most state next journal fan first done false there) ∙ length-moved state.jobs.fans (cursor_after most state.stored fan) in
      let some = some-left (drop most (all_of state.stored fan)) (ap (λ ns. eqb (length ns) 0) (sym (left-is most state fan)) ∙ there) in
      let fewer = length-rest most (all_of state.stored fan) positive some in
      let is = ap (λ (ns : List ℕ). length ns) (left-behind most state.stored fan) in
      let later = ends-by most n next (journal + 1) (record fan { cursor = cursor_after most state.stored fan }) positive
      (moved-first most state next journal fan first done as_many) (omega (arith, below, fewer, is)) in
      (next_served state.stored most fan ++ later.0, (later.1.0, goes_on first done as_many later.1.1))
]
  where
    next : State
    next = with_jobs state (after_serving state.stored most state.jobs fan)

    done : step_by most state journal Fan ≡ Some next
    done = ap (λ (o : Option FanEntry). option_map (λ jobs. with_jobs state jobs) (option_map (after_serving state.stored most state.jobs) o)) first

pub run-ends : (most : ℕ) (state : State) (journal : ℕ) (fan : FanEntry) → 1 ≤ most → first_fan state.jobs ≡ Some fan → (pages : List ℕ) × ((last : State) × FanRun most state journal pages last)
run-ends most state journal fan positive first = ends-by most (length (all_of state.stored fan) + 1) state journal fan positive first (omega arith)
