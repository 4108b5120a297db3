-- What keeps a state sound.
use Rattle.std.proofs.Common.{◌≡◌, ℕ, ◌+◌, ◌-◌, true, false, cond, eqb, [], Option, Some, None, refl, sym, ◌∙◌, inl, inr}
use Rattle.std.specs.Prelude.{slice_get, option_map}
use Rattle.wk_page_rules.specs.History.{Page, no_history}
use Rattle.wk_page_rules.specs.PageRows.{PageRows}
use Rattle.wk_wiki_rules.specs.Jobs.{JobLists, has_refresh, first_queued, page_held_by, claimed_by, given_back}
use Rattle.wk_wiki_rules.specs.Steps.{reopened_jobs}
use Rattle.wk_wiki_rules.specs.Covers.{is_covered}
use Rattle.wk_wiki_rules.proofs.JobLemmas.{has_refresh-claimed, has_refresh-given_back, has_refresh-reopened}
use Rattle.wk_wiki_rules.specs.States.{State, no_state, page_at, stored_at}
use Rattle.wk_wiki_rules.specs.Events.{Claim, Back, with_jobs, step_by}
use Rattle.wk_wiki_rules.specs.Lives.{reopened}
use Rattle.wk_wiki_rules.specs.Soundness.{IsSound, IsCurrent}

no-page : (number : ℕ) → page_at no_history number ≡ None
no-page number = elim (eqb number 0) as (λ b. cond b None (slice_get no_history.pages (number - 1)) ≡ None) [ true ↦ refl | false ↦ refl ]

pub IsSound-none : IsSound no_state
IsSound-none number page there = absurd (let e : None ≡ Some page = rw (no-page number) at there in cc)

-- ---- no job left

uncovered : (lists : JobLists) (number : ℕ) (links : PageRows) → lists.refreshes ≡ [] → lists.fans ≡ [] → is_covered lists number links ≡ false
uncovered lists number links no_refresh no_fan = rw (no_refresh, no_fan) refl

pub IsCurrent-at_rest : (state : State) → IsSound state → state.jobs.refreshes ≡ [] → state.jobs.fans ≡ [] → (number : ℕ) (page : Page) → page_at state.history number ≡ Some page → IsCurrent state number page
IsCurrent-at_rest state sound no_refresh no_fan number page there = elim (sound number page there) [
  | inl current ↦ current
  | inr covered ↦ absurd (let none = uncovered state.jobs number (stored_at state number) no_refresh no_fan in let e : false ≡ true = sym none ∙ covered in cc)
]

-- ---- other jobs that cover no less

pub IsSound-with_jobs : (state : State) (lists : JobLists) → ((page : ℕ) (links : PageRows) → is_covered state.jobs page links ≡ true → is_covered lists page links ≡ true) → IsSound state → IsSound (with_jobs state lists)
IsSound-with_jobs state lists covers sound number page there = elim (sound number page there) [
  | inl current ↦ inl current
  | inr covered ↦ inr (covers number (stored_at state number) covered)
]

same_covers : (before after : JobLists) → ((page : ℕ) → has_refresh after page ≡ has_refresh before page) → after.fans ≡ before.fans → (page : ℕ) (links : PageRows) → is_covered before page links ≡ true → is_covered after page links ≡ true
same_covers before after refreshes fans page links covered = rw (refreshes page, fans) covered

-- what an option gives, where it gives something
pub given : {X Y : Type 0} (P : Y → Type 0) (f : X → Y) (o : Option X) (y : Y) → option_map f o ≡ Some y → ((x : X) → P (f x)) → P y
given P f None y there all = absurd cc
given P f (Some x) y there all = let same : f x ≡ y = cc in rw (← same) (all x)

pub IsSound-claimed : (most : ℕ) (state next : State) (journal : ℕ) → step_by most state journal Claim ≡ Some next → IsSound state → IsSound next
IsSound-claimed most state next journal done sound =
    given IsSound (λ page. with_jobs state (claimed_by state.jobs (journal + 1))) (first_queued state.jobs) next done
    (λ page. IsSound-with_jobs state (claimed_by state.jobs (journal + 1))
    (same_covers state.jobs (claimed_by state.jobs (journal + 1)) (has_refresh-claimed state.jobs (journal + 1)) refl) sound)

pub IsSound-given_back : (most : ℕ) (state next : State) (journal ticket : ℕ) → step_by most state journal (Back ticket) ≡ Some next → IsSound state → IsSound next
IsSound-given_back most state next journal ticket done sound =
    given IsSound (λ page. with_jobs state (given_back state.jobs page)) (page_held_by state.jobs ticket) next done
    (λ page. IsSound-with_jobs state (given_back state.jobs page)
    (same_covers state.jobs (given_back state.jobs page) (has_refresh-given_back state.jobs page) refl) sound)

pub IsSound-reopened : (state : State) → IsSound state → IsSound (reopened state)
IsSound-reopened state sound =
    IsSound-with_jobs state (reopened_jobs state.jobs) (same_covers state.jobs (reopened_jobs state.jobs) (has_refresh-reopened state.jobs) refl) sound
