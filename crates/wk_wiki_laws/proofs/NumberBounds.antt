-- The bounds of numbers, and how far fans raise them.
use Rattle.std.proofs.Common.{◌≡◌, ℕ, zero, suc, ◌+◌, ◌-◌, ◌≤◌, ◌<◌, ◌^◌, Bool, true, false, eqb, ltb, leb, List, [], ◌∷◌, length, take, drop, max, unwrap_or, Option, Some, None, refl, ap, ◌∙◌, inl, inr, subst, arith}
use Rattle.std.specs.Prelude.{⊤, All, sum_by}
use Rattle.std.specs.List.{AllByRecursion, last_or, list_any}
use Rattle.std.proofs.lemmas.Bool.{cases_Bool, cond_both, and_parts, or_parts, ltb-true, ltb-false}
use Rattle.std.proofs.lemmas.List.Elements.{All-from_recursion, recursion_from_All}
use Rattle.std.proofs.lemmas.List.Sums.{sum_by-cons}
use Rattle.std.proofs.lemmas.Option.{option_and_then_some}
use Rattle.wk_text_rules.specs.Titles.{PageTitle}
use Rattle.wk_page_rules.specs.Verdict.{EditAsked, MostHeld, accept, is_journal_full, judged, max_job, max_pages}
use Rattle.wk_page_rules.specs.PageRows.{PageRows, names}
use Rattle.wk_wiki_rules.specs.Jobs.{FanEntry, JobLists, IsNumbered, first_queued, numbers_of, page_held_by, claimed_by, given_back, fan_dropped, fan_moved, with_first_cursor}
use Rattle.wk_wiki_rules.specs.Steps.{all_queued, after_serving, cursor_behind, next_served}
use Rattle.wk_wiki_rules.specs.Users.{users}
use Rattle.wk_wiki_rules.specs.States.{State}
use Rattle.wk_wiki_rules.specs.Events.{Event, Save, Claim, Done, Back, Fan, with_jobs, with_refreshed, step_by}
use Rattle.wk_wiki_rules.specs.Lives.{replay_from, reopened}
use Rattle.wk_wiki_rules.specs.Verdicts.{journal_use, verdict_in}
use Rattle.wk_wiki_laws.specs.Kept.{FanFits, IsKept}
use Rattle.wk_wiki_laws.specs.WellFormed.{IsWellFormed}
use Rattle.wk_wiki_laws.proofs.Fanned.{fans-all_queued}
use Rattle.wk_wiki_laws.proofs.Formed.{Within, users-within, IsWellFormed-step}
use Rattle.wk_wiki_laws.proofs.KeptStates.{greatest-within, next-all_queued}
use Rattle.wk_wiki_laws.proofs.Served.{found, uses, users-is}
use Rattle.wk_wiki_rules.specs.Entries.{is_save}
use Rattle.wk_wiki_rules.specs.Room.{is_fan_refused, tickets_out}
use Rattle.wk_wiki_laws.specs.Numbers.{pages_ahead}
use Rattle.wk_wiki_laws.proofs.Room.{accept-room, given}
use Rattle.wk_wiki_laws.proofs.TicketSteps.{fanned-is}
use Rattle.wk_wiki_laws.proofs.ChangesMade.{first-is}
use Rattle.wk_wiki_laws.proofs.JobOrder.{each-weaker}

-- ---- bounds

not-past : (most : MostHeld) (state : State) (journal : ℕ) → is_journal_full most (journal_use state journal) ≡ false → state.jobs.next ≤ max_job
not-past most state journal room = ltb-false max_job state.jobs.next (or_parts (leb most.journal (journal + tickets_out state)) (ltb max_job state.jobs.next) room).1

pub next-at-a-save : (most : MostHeld) (state : State) (journal : ℕ) (edit : EditAsked) (title : PageTitle) (text : Option (List ℕ)) → verdict_in most state journal edit ≡ accept title text → state.jobs.next ≤ 2 ^ 62
next-at-a-save most state journal edit title text is = not-past most state journal (accept-room (is_journal_full most (journal_use state journal)) (judged state.history most edit) title text is)

pub next-at-a-fan : (most : MostHeld) (state : State) (journal : ℕ) → is_fan_refused most state journal ≡ false → state.jobs.next ≤ 2 ^ 62
next-at-a-fan most state journal room = not-past most state journal room

pub numbers-below : (state : State) → IsKept state → All (λ number. (1 ≤ number) × (number < 2 ^ 63)) (numbers_of state.jobs)
numbers-below state keeps =
    let next = keeps.next in
    let bounded = recursion_from_All (λ n. (1 ≤ n) × (n < state.jobs.next)) (numbers_of state.jobs) keeps.numbered.bounded in
    All-from_recursion (λ n. (1 ≤ n) × (n < 2 ^ 63)) (numbers_of state.jobs)
    (each-weaker (λ n. (1 ≤ n) × (n < state.jobs.next)) (λ n. (1 ≤ n) × (n < 2 ^ 63)) (λ n both. (both.0, let below = both.1 in omega (arith, below, next))) (numbers_of state.jobs) bounded)

pub cursors-low : (state : State) → IsKept state → All (λ (fan : FanEntry). fan.cursor ≤ max_pages) state.jobs.fans
cursors-low state keeps =
    All-from_recursion (λ (fan : FanEntry). fan.cursor ≤ max_pages) state.jobs.fans
    (each-weaker (FanFits max_pages) (λ (fan : FanEntry). fan.cursor ≤ max_pages) (λ fan fits. fits.1) state.jobs.fans keeps.fans)

-- ---- what a fan serves

-- each number is above the one before it, and the first above this one
RisesFrom : ℕ → List ℕ → Type 0
RisesFrom b [] = ⊤
RisesFrom b (n ∷ ns) = (b < n) × RisesFrom n ns

rises-found : (p : ℕ × PageRows → Bool) (a b : ℕ) (stored : List PageRows) (most : ℕ) → ((n : ℕ) (rows : PageRows) → a ≤ n → p (n, rows) ≡ true → b < n) → RisesFrom b (take most (found p a stored))
unfolding RisesFrom
rises-found p a b [] zero above = tt
rises-found p a b [] (suc most) above = tt
rises-found p a b (x ∷ stored) zero above = tt
rises-found p a b (x ∷ stored) (suc most) above = elim (cases_Bool (p (a, x))) [
  | inl fits ↦ rw fits (above a x (omega arith) fits, rises-found p (a + 1) a stored most (λ n rows from passes. omega (arith, from)))
  | inr fails ↦ rw fails (rises-found p (a + 1) b stored (suc most) (λ n rows from. above n rows (omega (arith, from))))
]

-- so many numbers take up as much room
rise-room : (b d : ℕ) (o : Option ℕ) (ns : List ℕ) → unwrap_or o d ≡ b → RisesFrom b ns → b + length ns ≤ unwrap_or (last_or o ns) d
unfolding RisesFrom
rise-room b d o [] at rises = omega (arith, at)
rise-room b d o (n ∷ ns) at rises =
    let later = rise-room n d (Some n) ns refl rises.1 in
    let first = rises.0 in
    omega (arith, later, first)

last-low : (n d : ℕ) (o : Option ℕ) (ns : List ℕ) → unwrap_or o d ≤ n → AllByRecursion (λ m. m ≤ n) ns → unwrap_or (last_or o ns) d ≤ n
last-low n d o [] low all = low
last-low n d o (m ∷ ns) low all = last-low n d (Some m) ns all.0 all.1

serves-few : (stored : List PageRows) (fan : FanEntry) (most : ℕ) → fan.cursor + length (next_served stored most fan) ≤ cursor_behind (next_served stored most fan) fan.cursor
serves-few stored fan most =
    let p = uses fan.title fan.reach fan.cursor in
    rw (users-is stored fan.title fan.reach fan.cursor most)
    (rise-room fan.cursor fan.cursor None (take most (found (uses fan.title fan.reach fan.cursor) 1 stored)) refl
    (rises-found (uses fan.title fan.reach fan.cursor) 1 fan.cursor stored most
    (λ n rows from passes. ltb-true fan.cursor n (and_parts (ltb fan.cursor n) (names rows fan.title fan.reach) passes).0)))

cursor-low : (stored : List PageRows) (fan : FanEntry) (most : ℕ) → cursor_behind (next_served stored most fan) fan.cursor ≤ max (length stored) fan.cursor
cursor-low stored fan most =
    last-low (max (length stored) fan.cursor) fan.cursor None (next_served stored most fan) (omega arith)
    (each-weaker (Within (length stored)) (λ m. m ≤ max (length stored) fan.cursor) (λ m within. let high = within.1 in omega (arith, high)) (next_served stored most fan) (users-within stored fan most))

-- ---- the sum after each event

abbrev ahead : ℕ → List FanEntry → ℕ
ahead pages fans = sum_by (λ (fan : FanEntry). pages - fan.cursor) fans

ahead-cons : (pages : ℕ) (fan : FanEntry) (fans : List FanEntry) → ahead pages (fan ∷ fans) ≡ (pages - fan.cursor) + ahead pages fans
ahead-cons pages fan fans = sum_by-cons (λ (f : FanEntry). pages - f.cursor) fan fans

fan-sum : (served : ℕ) (state : State) (fan : FanEntry) (rest : List FanEntry) → length state.stored ≡ length state.history.pages → state.jobs.fans ≡ fan ∷ rest
    → (after_serving state.stored served state.jobs fan).next + ahead (length state.history.pages) (after_serving state.stored served state.jobs fan).fans ≤ state.jobs.next + ahead (length state.history.pages) state.jobs.fans
fan-sum served state fan rest stored is =
    let n = length state.history.pages in
    let pages = next_served state.stored served fan in
    let cursor = cursor_behind pages fan.cursor in
    let queued = all_queued state.jobs pages in
    let few = serves-few state.stored fan served in
    let low = cursor-low state.stored fan served in
    let more = next-all_queued state.jobs pages in
    let before : ahead n state.jobs.fans ≡ (n - fan.cursor) + ahead n rest = ap (ahead n) is ∙ ahead-cons n fan rest in
    let fans : queued.fans ≡ fan ∷ rest = fans-all_queued state.jobs pages ∙ is in
    let dropped : ahead n (drop 1 queued.fans) ≡ ahead n rest = ap (λ fs. ahead n (drop 1 fs)) fans in
    let moved : ahead n (with_first_cursor queued.fans cursor) ≡ (n - cursor) + ahead n rest = ap (λ fs. ahead n (with_first_cursor fs cursor)) fans ∙ ahead-cons n (record fan { cursor = cursor }) rest in
    let gone : queued.next + ahead n (drop 1 queued.fans) ≤ state.jobs.next + ahead n state.jobs.fans = omega (arith, few, low, more, before, dropped, stored) in
    let stays : queued.next + ahead n (with_first_cursor queued.fans cursor) ≤ state.jobs.next + ahead n state.jobs.fans = omega (arith, few, low, more, before, moved, stored) in
    cond_both (eqb (length (users state.stored fan.title fan.reach cursor 1)) 0) (fan_dropped queued) (fan_moved queued cursor)
    (λ (after : JobLists). after.next + ahead n after.fans ≤ state.jobs.next + ahead n state.jobs.fans) (λ nobody. gone) (λ others. stays)

pub sum-step : (served : ℕ) (state next : State) (journal : ℕ) (event : Event) → IsWellFormed state → is_save event ≡ false → step_by served state journal event ≡ Some next → next.jobs.next + pages_ahead next ≤ state.jobs.next + pages_ahead state
sum-step served state next journal (Save title text moment) formed none done = absurd (let e : true ≡ false = none in cc)
sum-step served state next journal Claim formed none done =
    given (λ (s : State). s.jobs.next + pages_ahead s ≤ state.jobs.next + pages_ahead state) (λ page. with_jobs state (claimed_by state.jobs (journal + 1))) (first_queued state.jobs) next done (λ page first. omega arith)
sum-step served state next journal (Done ticket) formed none done =
    given (λ (s : State). s.jobs.next + pages_ahead s ≤ state.jobs.next + pages_ahead state) (λ page. with_refreshed state page) (page_held_by state.jobs ticket) next done (λ page holds. omega arith)
sum-step served state next journal (Back ticket) formed none done =
    given (λ (s : State). s.jobs.next + pages_ahead s ≤ state.jobs.next + pages_ahead state) (λ page. with_jobs state (given_back state.jobs page)) (page_held_by state.jobs ticket) next done (λ page holds. omega arith)
sum-step served state next journal Fan formed none done =
    let is = fanned-is served state next journal done in
    let first = first-is state.jobs.fans is.0 is.1.0 in
    subst (λ (s : State). s.jobs.next + pages_ahead s ≤ state.jobs.next + pages_ahead state) is.1.1 (fan-sum served state is.0 first.0 formed.stored first.1)

pub sum-replay : (served : ℕ) (state last : State) (journal : ℕ) (events : List Event) → IsWellFormed state → list_any is_save events ≡ false → replay_from served state journal events ≡ Some last → last.jobs.next + pages_ahead last ≤ state.jobs.next + pages_ahead state
sum-replay served state last journal [] formed none done =
    let e : Some state ≡ Some last = done in
    let same : state ≡ last = cc in
    subst (λ (s : State). s.jobs.next + pages_ahead s ≤ state.jobs.next + pages_ahead state) same (omega arith)
sum-replay served state last journal (event ∷ events) formed none done =
    let parts = or_parts (is_save event) (list_any is_save events) none in
    option_and_then_some (λ next. replay_from served next (journal + 1) events) (step_by served state journal event) last done
    (λ next stepped later.
    let first = sum-step served state next journal event formed parts.0 stepped in
    let rest = sum-replay served next last (journal + 1) events (IsWellFormed-step served state next journal event stepped formed) parts.1 later in
    omega (arith, first, rest))

pub sum-reopened : (state : State) → IsNumbered state.jobs → (reopened state).jobs.next + pages_ahead (reopened state) ≤ state.jobs.next + pages_ahead state
sum-reopened state numbered =
    let all = recursion_from_All (λ n. (1 ≤ n) × (n < state.jobs.next)) (numbers_of state.jobs) numbered.bounded in
    let greatest = greatest-within state.jobs.next 0 (numbers_of state.jobs) (let low = numbered.positive in omega (arith, low)) all in
    omega (arith, greatest)
