-- The fan jobs stay in the order of their numbers.
use Rattle.std.proofs.Common.{◌≡◌, ℕ, ◌<◌, ◌≤◌, List, [], ◌∷◌, ◌++◌, map, drop, refl, ◌∙◌, inl, inr}
use Rattle.std.specs.List.{AllByRecursion}
use Rattle.std.proofs.lemmas.Bool.{cases_Bool, cond_both}
use Rattle.std.proofs.lemmas.List.{map-append}
use Rattle.std.proofs.lemmas.List.Elements.{recursion_from_All}
use Rattle.wk_text_rules.specs.Titles.{PageTitle, title_eq}
use Rattle.wk_page_rules.specs.declared.Reach.{Reach}
use Rattle.wk_page_rules.specs.PageRows.{PageRows}
use Rattle.wk_wiki_rules.specs.Jobs.{FanEntry, JobLists, IsNumbered, has_fan, has_refresh, set_anew, with_first_cursor, refresh_queued, fan_set, fan_moved, fan_dropped}
use Rattle.wk_wiki_rules.specs.Steps.{all_queued, after_save, after_serving, cursor_behind, next_served}
use Rattle.wk_wiki_rules.proofs.JobLemmas.{IsNumbered-queued}
use Rattle.wk_table_laws.specs.InOrder.{Rises, IsInOrder}

fan_numbers-queued : (lists : JobLists) (page : ℕ) → (refresh_queued lists page).fans ≡ lists.fans
fan_numbers-queued lists page = elim (cases_Bool (has_refresh lists page)) [ inl there ↦ rw there refl | inr none ↦ rw none refl ]

fans-all_queued : (lists : JobLists) (pages : List ℕ) → (all_queued lists pages).fans ≡ lists.fans
fans-all_queued lists [] = refl
fans-all_queued lists (page ∷ pages) = fans-all_queued (refresh_queued lists page) pages ∙ fan_numbers-queued lists page

Rises-push : (ns : List ℕ) (n : ℕ) → Rises ns → AllByRecursion (λ m. m < n) ns → Rises (ns ++ n ∷ [])
Rises-push [] n rises below = (tt, tt)
Rises-push (m ∷ ns) n rises below = (each-push ns rises.0, Rises-push ns n rises.1 below.1)
  where
    each-push : (rest : List ℕ) → AllByRecursion (λ k. m < k) rest → AllByRecursion (λ k. m < k) (rest ++ n ∷ [])
    each-push [] all = (below.0, tt)
    each-push (k ∷ rest) all = (all.0, each-push rest all.1)

all_back : (P : ℕ → Type 0) (xs ys : List ℕ) → AllByRecursion P (xs ++ ys) → AllByRecursion P ys
all_back P [] ys all = all
all_back P (x ∷ xs) ys all = all_back P xs ys all.1

weaker : (n : ℕ) (ns : List ℕ) → AllByRecursion (λ m. (1 ≤ m) × (m < n)) ns → AllByRecursion (λ m. m < n) ns
weaker n [] all = tt
weaker n (m ∷ ns) all = (all.0.1, weaker n ns all.1)

pub IsInOrder-set : (lists : JobLists) (title : PageTitle) (reach : Reach) → IsNumbered lists → IsInOrder lists → IsInOrder (fan_set lists title reach)
IsInOrder-set lists title reach numbered order = elim (cases_Bool (has_fan lists title)) [
  | inl there ↦ rw (there, anew lists.fans) order
  | inr none ↦ rw (none, map-append (λ job. job.number) lists.fans (record { number = lists.next; title = title; reach = reach; cursor = 0 } ∷ []))
      (Rises-push (map (λ job. job.number) lists.fans) lists.next order
      (weaker lists.next (map (λ job. job.number) lists.fans)
      (all_back (λ m. (1 ≤ m) × (m < lists.next)) (map (λ job. job.number) lists.refreshes) (map (λ job. job.number) lists.fans)
      (recursion_from_All (λ m. (1 ≤ m) × (m < lists.next)) (map (λ job. job.number) lists.refreshes ++ map (λ job. job.number) lists.fans) numbered.bounded))))
]
  where
    number : (job : FanEntry) → (set_anew title reach job).number ≡ job.number
    number job = cond_both (title_eq job.title title) _ _ (λ (set : FanEntry). set.number ≡ job.number) (λ same. refl) (λ other. refl)

    anew : (jobs : List FanEntry) → map (λ job. job.number) (map (set_anew title reach) jobs) ≡ map (λ job. job.number) jobs
    anew [] = refl
    anew (job ∷ jobs) = rw (number job, anew jobs) refl

pub IsInOrder-moved : (lists : JobLists) (cursor : ℕ) → IsInOrder lists → IsInOrder (fan_moved lists cursor)
IsInOrder-moved lists cursor order = rw (moved lists.fans) order
  where
    moved : (jobs : List FanEntry) → map (λ job. job.number) (with_first_cursor jobs cursor) ≡ map (λ job. job.number) jobs
    moved [] = refl
    moved (job ∷ jobs) = refl

pub IsInOrder-dropped : (lists : JobLists) → IsInOrder lists → IsInOrder (fan_dropped lists)
IsInOrder-dropped lists order = behind lists.fans order
  where
    behind : (jobs : List FanEntry) → Rises (map (λ job. job.number) jobs) → Rises (map (λ job. job.number) (drop 1 jobs))
    behind [] rises = rises
    behind (job ∷ jobs) rises = rises.1

pub IsInOrder-queued : (lists : JobLists) (page : ℕ) → IsInOrder lists → IsInOrder (refresh_queued lists page)
IsInOrder-queued lists page order = rw (fan_numbers-queued lists page) order

pub IsInOrder-saved : (stored : List PageRows) (lists : JobLists) (page : ℕ) (title : PageTitle) (reach : Reach) → IsNumbered lists → IsInOrder lists → IsInOrder (after_save stored lists page title reach)
IsInOrder-saved stored lists page title reach numbered order =
    let queued = IsInOrder-queued lists page order in
    cond_both _ _ _ IsInOrder (λ named. IsInOrder-set (refresh_queued lists page) title reach (IsNumbered-queued lists page numbered) queued) (λ nobody. queued)

pub IsInOrder-served : (stored : List PageRows) (most : ℕ) (lists : JobLists) (fan : FanEntry) → IsInOrder lists → IsInOrder (after_serving stored most lists fan)
IsInOrder-served stored most lists fan order =
    let pages = next_served stored most fan in
    let served : IsInOrder (all_queued lists pages) = rw (fans-all_queued lists pages) order in
    let cursor = cursor_behind pages fan.cursor in
    cond_both _ _ _ IsInOrder (λ nobody. IsInOrder-dropped (all_queued lists pages) served) (λ others. IsInOrder-moved (all_queued lists pages) cursor served)
