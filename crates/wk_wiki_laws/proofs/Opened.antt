-- A store is opened as a sound wiki.
use Rattle.std.proofs.Common.{◌≡◌, ℕ, zero, suc, ◌+◌, ◌-◌, ◌≤◌, ◌<◌, true, false, cond, eqb, List, [], ◌∷◌, length, Some, None, refl, ◌∙◌, inl, inr, arith}
use Rattle.std.specs.Prelude.{slice_get}
use Rattle.std.specs.List.{list_any, range_with_len}
use Rattle.std.proofs.lemmas.Bool.{cases_Bool, cond_both, or_left, or_right, eqb-false, eq-eqb}
use Rattle.std.proofs.lemmas.Option.{slice_get_within}
use Rattle.wk_page_rules.specs.History.{History, Page}
use Rattle.wk_table_rules.specs.Rows.{StoreTables}
use Rattle.wk_wiki_rules.specs.Jobs.{JobLists, has_refresh, refresh_queued}
use Rattle.wk_wiki_rules.specs.Steps.{all_queued}
use Rattle.wk_wiki_rules.specs.Covers.{fan_covers}
use Rattle.wk_wiki_rules.proofs.JobLemmas.{has_refresh-queued}
use Rattle.wk_wiki_rules.specs.States.{State, page_at, stored_at}
use Rattle.wk_wiki_rules.specs.Tables.{state_of}
use Rattle.wk_wiki_rules.specs.Lives.{all_refreshed, opened}
use Rattle.wk_wiki_rules.specs.Soundness.{IsSound}
use Rattle.wk_wiki_laws.proofs.Sound.{IsSound-reopened}

-- a page's number is from 1 to the number of pages
pub page-within : (h : History) (number : ℕ) (page : Page) → page_at h number ≡ Some page → (1 ≤ number) × (number ≤ length h.pages)
page-within h number page there = elim (cases_Bool (eqb number 0)) [
  | inl none ↦ absurd (let e : None ≡ Some page = rw none at there in cc)
  | inr more ↦
      let got : slice_get h.pages (number - 1) ≡ Some page = rw more at there in
      let within = slice_get_within h.pages (number - 1) page got in
      let positive = eqb-false number 0 more in
      (omega (arith, positive), omega (arith, within, positive))
]

in-range : (a n page : ℕ) → a ≤ page → page < a + n → list_any (λ p. eqb p page) (range_with_len a n) ≡ true
in-range a zero page from below = absurd (omega arith)
in-range a (suc n) page from below = elim (cases_Bool (eqb a page)) [
  | inl same ↦ rw same refl
  | inr other ↦ rw other (let apart = eqb-false a page other in in-range (a + 1) n page (omega arith) (omega arith))
]

pub all-keeps : (lists : JobLists) (pages : List ℕ) (page : ℕ) → has_refresh lists page ≡ true → has_refresh (all_queued lists pages) page ≡ true
all-keeps lists [] page there = there
all-keeps lists (whose ∷ pages) page there =
    all-keeps (refresh_queued lists whose) pages page (has_refresh-queued lists whose page ∙ or_left (has_refresh lists page) (eqb whose page) there)

pub all-queues : (lists : JobLists) (pages : List ℕ) (page : ℕ) → list_any (λ p. eqb p page) pages ≡ true → has_refresh (all_queued lists pages) page ≡ true
all-queues lists [] page there = absurd (let e : false ≡ true = there in cc)
all-queues lists (whose ∷ pages) page there = elim (cases_Bool (eqb whose page)) [
  | inl same ↦ all-keeps (refresh_queued lists whose) pages page (has_refresh-queued lists whose page ∙ or_right (has_refresh lists page) (eqb whose page) same)
  | inr other ↦ all-queues (refresh_queued lists whose) pages page (rw other at there)
]

IsSound-all_refreshed : (state : State) → IsSound (all_refreshed state)
IsSound-all_refreshed state number page there =
    let within = page-within state.history number page there in
    let numbers = range_with_len 1 (length state.history.pages) in
    inr (or_left (has_refresh (all_queued state.jobs numbers) number) (list_any (fan_covers number (stored_at state number)) (all_queued state.jobs numbers).fans)
    (all-queues state.jobs numbers number (in-range 1 (length state.history.pages) number within.0 (omega (arith, within.1)))))

pub IsSound-opened_old : (tables : StoreTables) → tables.version ≡ 1 → IsSound (opened tables)
IsSound-opened_old tables old =
    let first : eqb tables.version 1 ≡ true = eq-eqb tables.version 1 old in
    IsSound-reopened (cond (eqb tables.version 1) (all_refreshed (state_of tables)) (state_of tables))
    (rw first (IsSound-all_refreshed (state_of tables)))

pub IsSound-opened : (tables : StoreTables) → IsSound (state_of tables) → IsSound (opened tables)
IsSound-opened tables sound =
    IsSound-reopened (cond (eqb tables.version 1) (all_refreshed (state_of tables)) (state_of tables))
    (cond_both (eqb tables.version 1) (all_refreshed (state_of tables)) (state_of tables) IsSound (λ old. IsSound-all_refreshed (state_of tables)) (λ other. sound))
