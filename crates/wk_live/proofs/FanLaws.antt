-- What serving a fan does to the jobs.
use Rattle.std.proofs.Common.{◌≡◌, ℕ, ◌+◌, ◌-◌, ◌≤◌, ◌<◌, Bool, true, false, cond, eqb, List, [], ◌∷◌, length, Option, Some, None, refl, sym, ap, ◌∙◌, inl, inr, arith}
use Rattle.std.specs.Prelude.{slice_get, option_map}
use Rattle.std.specs.List.{last_or}
use Rattle.std.proofs.lemmas.Bool.{cases_Bool}
use Rattle.wk_wiki_rules.specs.Jobs.{FanEntry, JobLists, first_fan, fan_dropped, fan_moved, has_refresh, refresh_queued, with_first_cursor}
use Rattle.wk_wiki_rules.specs.Steps.{after_fan, after_serving, all_queued, cursor_behind}
use Rattle.wk_wiki_rules.specs.Users.{users}
use Rattle.wk_wiki_rules.specs.States.{State}
use Rattle.wk_wiki_laws.proofs.Fanned.{fans-all_queued}
use Rattle.wk_live.specs.Fanned.{IsNextServed, first_fan_served, jobs_served}

-- ---- the last page

last-from : (o : Option ℕ) (x : ℕ) (xs : List ℕ) → last_or o (x ∷ xs) ≡ slice_get (x ∷ xs) (length xs)
last-from o x [] = refl
last-from o x (y ∷ xs) = last-from (Some x) y xs

pub last_is : (xs : List ℕ) → last_or None xs ≡ slice_get xs (length xs - 1)
last_is [] = refl
last_is (x ∷ xs) = let same : length xs ≡ length (x ∷ xs) - 1 = omega arith in last-from None x xs ∙ ap (slice_get (x ∷ xs)) same

-- ---- the next number

pub next-queued : (lists : JobLists) (page : ℕ) → (refresh_queued lists page).next ≤ lists.next + 1
next-queued lists page = elim (cases_Bool (has_refresh lists page)) [ inl there ↦ rw there (omega arith) | inr none ↦ rw none (omega arith) ]

-- ---- the first fan job

moved-nowhere : (lists : JobLists) (served : List ℕ) (fan : FanEntry) (rest : List FanEntry) → lists.fans ≡ fan ∷ rest → fan_moved (all_queued lists served) fan.cursor ≡ all_queued lists served
moved-nowhere lists served fan rest first =
    let same : (all_queued lists served).fans ≡ fan ∷ rest = fans-all_queued lists served ∙ first in
    ap (λ (fans : List FanEntry). record (all_queued lists served) { fans = fans }) (ap (λ fans. with_first_cursor fans fan.cursor) same ∙ sym same)

moved-to : (lists : JobLists) (served : List ℕ) (fan : FanEntry) (rest : List FanEntry) → lists.fans ≡ fan ∷ rest → (last : Option ℕ) → last_or None served ≡ last
    → fan_moved (all_queued lists served) (cursor_behind served fan.cursor) ≡ first_fan_served (all_queued lists served) last false
moved-to lists served fan rest first None is = rw is (moved-nowhere lists served fan rest first)
moved-to lists served fan rest first (Some page) is = rw is refl

served-as : (lists : JobLists) (served : List ℕ) (fan : FanEntry) (rest : List FanEntry) → lists.fans ≡ fan ∷ rest → (is_last : Bool)
    → cond is_last (fan_dropped (all_queued lists served)) (fan_moved (all_queued lists served) (cursor_behind served fan.cursor)) ≡ jobs_served lists served is_last
served-as lists served fan rest first true = refl
served-as lists served fan rest first false = moved-to lists served fan rest first (last_or None served) refl

-- whether no page behind these names the title of the job
abbrev ends : List ℕ → State → FanEntry → Bool
ends served state fan = eqb (length (users state.stored fan.title fan.reach (cursor_behind served fan.cursor) 1)) 0

-- the jobs behind a fan that serves these pages
abbrev after : List ℕ → State → FanEntry → Bool → JobLists
after served state fan gone =
    cond gone (fan_dropped (all_queued state.jobs served)) (fan_moved (all_queued state.jobs served) (cursor_behind served fan.cursor))

pub fan-served : (state : State) (most : ℕ) (served : List ℕ) (is_last : Bool) → 0 < length state.jobs.fans → IsNextServed state most served is_last
    → after_fan state.stored most state.jobs ≡ Some (jobs_served state.jobs served is_last)
fan-served state most served is_last some next = by state.jobs.fans refl
  where
    by : (fans : List FanEntry) → state.jobs.fans ≡ fans → after_fan state.stored most state.jobs ≡ Some (jobs_served state.jobs served is_last)
    by [] none = absurd (let low : 0 < length state.jobs.fans = some in let nothing : length state.jobs.fans ≡ 0 = ap length none in omega (arith, low, nothing))
    by (fan ∷ rest) first =
        let is : first_fan state.jobs ≡ Some fan = ap (λ (fans : List FanEntry). slice_get fans 0) first in
        let told = next fan is in
        ap (λ o. option_map (after_serving state.stored most state.jobs) o) is
        ∙ ap (λ lists. Some lists)
        (ap (λ s. after s state fan (ends s state fan)) (sym told.0) ∙ (ap (after served state fan) (sym told.1) ∙ served-as state.jobs served fan rest first is_last))
