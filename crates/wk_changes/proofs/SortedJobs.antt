-- The rows of jobs, sorted by their numbers, are those of the rules.
use Rattle.std.proofs.Common.{◌≡◌, ℕ, suc, ◌≤◌, ◌<◌, eqb, List, [], ◌∷◌, length, map, get_or, sym, subst, arith}
use Rattle.std.specs.List.{AllByRecursion, IsDistinct}
use Rattle.std.specs.List.Sorted.{IsPermutation, IsNonDecreasingBy}
use Rattle.std.proofs.lemmas.List.Sorted.{IsPermutation-sym, IsPermutation-map, IsPermutation-trans}
use Rattle.std.proofs.lemmas.Map.Keys.{IsDistinct-IsPermutation}
use Rattle.wk_text_rules.specs.Titles.{PageTitle}
use Rattle.wk_table_rules.specs.Rows.{JobColumns}
use Rattle.wk_wiki_rules.specs.Jobs.{JobLists, IsNumbered}
use Rattle.wk_wiki_rules.specs.Steps.{by_number, rows_of_jobs}
use Rattle.wk_wiki_rules.proofs.JobLemmas.{by_number-permutes}
use Rattle.wk_wiki_rules.proofs.Lists.{eqb_flips}
use Rattle.wk_table_laws.proofs.Order.{Sorted, Sorted-by_number}
use Rattle.wk_jobs.proofs.Sorting.{one-sorted}
use Rattle.wk_wiki_laws.proofs.JobChanges.{rows_in, ids-in}

above : {X : Type 0} (n : X → ℕ) (first : X) (rest : List X) → ((j : ℕ) (d : X) → j < length rest → n first ≤ n (get_or rest j d)) → AllByRecursion (λ later. n first ≤ n later) rest
above n first [] each = tt
above n first (x ∷ rest) each = (each 0 x (omega arith), above n first rest (λ j d inside. each (suc j) d (omega arith)))

rises : {X : Type 0} (n : X → ℕ) (xs : List X) → IsNonDecreasingBy n xs → Sorted n xs
rises n [] up = tt
rises n (x ∷ xs) up =
    (above n x xs (λ j d inside. up 0 (suc j) d (omega arith) (omega arith)), rises n xs (λ i j d le inside. up (suc i) (suc j) d (omega arith) (omega arith)))

abbrev number : JobColumns → ℕ
number row = row.job_id

pub sorted-rows : (title_of : ℕ → PageTitle) (lists : JobLists) (sorted : List JobColumns) → IsNumbered lists → IsPermutation (rows_in title_of lists) sorted → IsNonDecreasingBy (λ (row : JobColumns). row.job_id) sorted
    → sorted ≡ rows_of_jobs title_of lists
sorted-rows title_of lists sorted numbered moved up =
    let rows = rows_in title_of lists in
    let apart : IsDistinct eqb (map number rows) = subst (IsDistinct eqb) (sym (ids-in title_of lists)) numbered.own in
    one-sorted number sorted (by_number number rows)
    (IsPermutation-trans sorted rows (by_number number rows) (IsPermutation-sym rows sorted moved) (by_number-permutes number rows))
    (rises number sorted up) (Sorted-by_number number rows)
    (IsDistinct-IsPermutation eqb eqb_flips (map number rows) (map number sorted) (IsPermutation-map number rows sorted moved) apart)
