-- Jobs in the order of their numbers: there is one such order, and a page's job is the same in it.
use Rattle.std.proofs.Common.{◌≡◌, ℕ, suc, ◌≤◌, ◌<◌, true, false, eqb, List, [], ◌∷◌, ◌++◌, length, map, get_or, Option, Some, None, refl, sym, ap, ◌∙◌, inl, inr, subst, arith}
use Rattle.std.specs.List.{AllByRecursion, IsDistinct, list_any}
use Rattle.std.specs.List.Sorted.{IsPermutation, IsNonDecreasingBy}
use Rattle.std.proofs.lemmas.Bool.{cases_Bool, both_ways, eqb-true, eq-eqb, or_parts}
use Rattle.std.proofs.lemmas.List.Elements.{All-from_recursion, recursion_from_All}
use Rattle.std.proofs.lemmas.List.Sorted.{All-permutation, IsPermutation-sym, IsPermutation-map, IsPermutation-append_comm, IsPermutation-trans, list_any-IsPermutation}
use Rattle.std.proofs.lemmas.Map.Keys.{IsDistinct-IsPermutation}
use Rattle.wk_wiki_rules.specs.Jobs.{RefreshEntry, queued_again}
use Rattle.wk_wiki_rules.specs.Steps.{by_number}
use Rattle.wk_wiki_rules.proofs.JobLemmas.{IsOneAPage-reopened, by_number-permutes}
use Rattle.wk_wiki_rules.proofs.Lists.{eqb_flips, map-map}
use Rattle.wk_table_laws.proofs.Order.{Sorted, Sorted-by_number, by_number-map, each-weaker}
use Rattle.wk_jobs.specs.Entries.{queued_entry, entries, number_of}
use Rattle.wk_jobs.specs.Unclaimed.{unclaimed}
use Rattle.wk_jobs.specs.declared.refreshes.ClaimedJob.{ClaimedJob}
use Rattle.wk_jobs.specs.declared.refreshes.QueuedJob.{QueuedJob}
use Rattle.wk_jobs.proofs.Entries.{IsOne, number_of-here, number_of-later, number_of-queued_again}

-- ---- one order

module _ {X : Type 0} (n : X → ℕ) where
  -- what is true of all of the first is true of all of the others
  abbrev Among : List X → List X → Type 1
  Among xs ys = (P : X → Type 0) → AllByRecursion P xs → AllByRecursion P ys

  only-first : (z : X) (zs : List X) → AllByRecursion (λ m. eqb (n z) m ≡ false) (map n zs) → AllByRecursion (λ x. n x ≡ n z → x ≡ z) zs
  only-first z [] apart = tt
  only-first z (y ∷ zs) apart = ((λ same. absurd (both_ways (eqb (n z) (n y)) apart.0 (eq-eqb (n z) (n y) (sym same)))), only-first z zs apart.1)

  others-apart : (P : X → Type 0) (m : ℕ) (w : X) (ws : List X) → m ≡ n w → AllByRecursion (λ k. eqb (n w) k ≡ false) (map n ws)
      → AllByRecursion (λ x. (n x ≡ m → ⊥) → P x) ws → AllByRecursion P ws
  others-apart P m w [] same apart all = tt
  others-apart P m w (x ∷ ws) same apart all =
      (all.0 (λ here. both_ways (eqb (n w) (n x)) apart.0 (eq-eqb (n w) (n x) (sym (here ∙ same)))), others-apart P m w ws same apart.1 all.1)

  behind : (z : X) (zs : List X) (w : X) (ws : List X) → Among (z ∷ zs) (w ∷ ws) → n z ≡ n w → AllByRecursion (λ k. eqb (n w) k ≡ false) (map n ws) → Among zs ws
  behind z zs w ws among same apart P all =
      others-apart P (n z) w ws same apart
      (among (λ x. (n x ≡ n z → ⊥) → P x) ((λ other. absurd (other refl)), each-weaker P (λ x. (n x ≡ n z → ⊥) → P x) (λ x p other. p) zs all)).1

  pub one-order : (zs ws : List X) → Among zs ws → Among ws zs → Sorted n zs → Sorted n ws → IsDistinct eqb (map n zs) → IsDistinct eqb (map n ws) → zs ≡ ws
  unfolding IsDistinct
  one-order [] [] to from up up' apart apart' = refl
  one-order [] (w ∷ ws) to from up up' apart apart' = absurd (to (λ x. ⊥) tt).0
  one-order (z ∷ zs) [] to from up up' apart apart' = absurd (from (λ x. ⊥) tt).0
  one-order (z ∷ zs) (w ∷ ws) to from up up' apart apart' =
      let le : n z ≤ n w = (to (λ x. n z ≤ n x) ((let own : n z ≤ n z = omega arith in own), up.0)).0 in
      let ge : n w ≤ n z = (from (λ x. n w ≤ n x) ((let own : n w ≤ n w = omega arith in own), up'.0)).0 in
      let same : n z ≡ n w = omega arith in
      let first : w ≡ z = (to (λ x. n x ≡ n z → x ≡ z) ((λ own. refl), only-first z zs apart.0)).0 (sym same) in
      let later : zs ≡ ws = one-order zs ws (behind z zs w ws to same apart'.0) (behind w ws z zs from (sym same) apart.0) up.1 up'.1 apart.1 apart'.1 in
      ap (λ x. x ∷ zs) (sym first) ∙ ap (λ xs. w ∷ xs) later

  among-permuted : (xs ys : List X) → IsPermutation xs ys → Among xs ys
  among-permuted xs ys moved P all = recursion_from_All P ys (All-permutation P xs ys moved (All-from_recursion P xs all))

  pub one-sorted : (zs ws : List X) → IsPermutation zs ws → Sorted n zs → Sorted n ws → IsDistinct eqb (map n zs) → zs ≡ ws
  one-sorted zs ws moved up up' apart =
      one-order zs ws (among-permuted zs ws moved) (among-permuted ws zs (IsPermutation-sym zs ws moved)) up up' apart
      (IsDistinct-IsPermutation eqb eqb_flips (map n zs) (map n ws) (IsPermutation-map n zs ws moved) apart)

-- ---- the jobs of a restart

sorted-entries : (qs : List QueuedJob) → IsNonDecreasingBy (λ (job : QueuedJob). job.number) qs → Sorted (λ (job : RefreshEntry). job.number) (map queued_entry qs)
sorted-entries [] up = tt
sorted-entries (q ∷ qs) up =
    (above q qs (λ j d inside. up 0 (suc j) d (omega arith) (omega arith)), sorted-entries qs (λ i j d le inside. up (suc i) (suc j) d (omega arith) (omega arith)))
  where
    above : (first : QueuedJob) (rest : List QueuedJob) → ((j : ℕ) (d : QueuedJob) → j < length rest → first.number ≤ (get_or rest j d).number)
        → AllByRecursion (λ (later : RefreshEntry). first.number ≤ later.number) (map queued_entry rest)
    above first [] each = tt
    above first (job ∷ rest) each = (each 0 job (omega arith), above first rest (λ j d inside. each (suc j) d (omega arith)))

abbrev number_in : RefreshEntry → ℕ
number_in job = job.number

queued-entries : (cs : List ClaimedJob) (qs : List QueuedJob) → map queued_again (entries cs qs) ≡ map queued_entry (map unclaimed cs ++ qs)
queued-entries [] [] = refl
queued-entries [] (q ∷ qs) = ap (λ jobs. queued_entry q ∷ jobs) (queued-entries [] qs)
queued-entries (c ∷ cs) qs = ap (λ jobs. queued_entry (unclaimed c) ∷ jobs) (queued-entries cs qs)

-- all jobs, sorted by their numbers, are the queued jobs of a restart
pub reopened-entries : (cs : List ClaimedJob) (qs sorted : List QueuedJob) → IsPermutation (qs ++ map unclaimed cs) sorted → IsNonDecreasingBy (λ (job : QueuedJob). job.number) sorted
    → IsDistinct eqb (map (λ (job : RefreshEntry). job.number) (entries cs qs))
    → map queued_entry sorted ≡ map queued_again (by_number (λ (job : RefreshEntry). job.number) (entries cs qs))
reopened-entries cs qs sorted moved up apart =
    let all = entries cs qs in
    let again = map queued_again all in
    let to : IsPermutation again (map queued_entry (qs ++ map unclaimed cs)) =
    rw (queued-entries cs qs) (IsPermutation-map queued_entry (map unclaimed cs ++ qs) (qs ++ map unclaimed cs) (IsPermutation-append_comm (map unclaimed cs) qs)) in
    let from = IsPermutation-trans again (map queued_entry (qs ++ map unclaimed cs)) (map queued_entry sorted) to (IsPermutation-map queued_entry (qs ++ map unclaimed cs) sorted moved) in
    let numbers : map number_in again ≡ map number_in all = map-map number_in queued_again number_in (λ job. refl) all in
    let apart' : IsDistinct eqb (map number_in (map queued_entry sorted)) =
    IsDistinct-IsPermutation eqb eqb_flips (map number_in again) (map number_in (map queued_entry sorted)) (IsPermutation-map number_in again (map queued_entry sorted) from) (subst (IsDistinct eqb) (sym numbers) apart) in
    one-sorted number_in (map queued_entry sorted) (by_number number_in again)
    (IsPermutation-trans (map queued_entry sorted) again (by_number number_in again) (IsPermutation-sym again (map queued_entry sorted) from) (by_number-permutes number_in again))
    (sorted-entries sorted up) (Sorted-by_number number_in again) apart'
    ∙ by_number-map queued_again number_in number_in (λ job. refl) all

-- ---- a page's number, in whatever order the jobs stand

own-number : (q : ℕ) (jobs : List RefreshEntry) → IsOne jobs → AllByRecursion (λ x. x.page ≡ q → Some x.number ≡ number_of jobs q) jobs
unfolding IsDistinct
own-number q [] one = tt
own-number q (job ∷ jobs) one =
    ((λ here. sym (number_of-here job jobs q (eq-eqb job.page q here))), later jobs one.0 (own-number q jobs one.1))
  where
    later : (xs : List RefreshEntry) → AllByRecursion (λ m. eqb job.page m ≡ false) (map (λ (x : RefreshEntry). x.page) xs) → AllByRecursion (λ x. x.page ≡ q → Some x.number ≡ number_of jobs q) xs
        → AllByRecursion (λ x. x.page ≡ q → Some x.number ≡ number_of (job ∷ jobs) q) xs
    later [] apart all = tt
    later (x ∷ xs) apart all =
        ((λ here. all.0 here ∙ sym (number_of-later job jobs q (subst (λ m. eqb job.page m ≡ false) here apart.0))), later xs apart.1 all.1)

found-number : (q : ℕ) (o : Option ℕ) (jobs : List RefreshEntry) → AllByRecursion (λ x. x.page ≡ q → Some x.number ≡ o) jobs → list_any (λ job. eqb job.page q) jobs ≡ true → number_of jobs q ≡ o
found-number q o [] all there = absurd (let e : false ≡ true = there in cc)
found-number q o (job ∷ jobs) all there = elim (cases_Bool (eqb job.page q)) [
  | inl here ↦ number_of-here job jobs q here ∙ all.0 (eqb-true job.page q here)
  | inr other ↦ number_of-later job jobs q other ∙ found-number q o jobs all.1 (rw other at there)
]

no-number : (q : ℕ) (jobs : List RefreshEntry) → list_any (λ job. eqb job.page q) jobs ≡ false → number_of jobs q ≡ None
no-number q [] none = refl
no-number q (job ∷ jobs) none =
    let parts = or_parts (eqb job.page q) (list_any (λ other. eqb other.page q) jobs) none in
    number_of-later job jobs q parts.0 ∙ no-number q jobs parts.1

moved-number : (q : ℕ) (jobs moved : List RefreshEntry) → IsOne jobs → IsPermutation jobs moved → number_of moved q ≡ number_of jobs q
moved-number q jobs moved one permuted = elim (cases_Bool (list_any (λ (job : RefreshEntry). eqb job.page q) jobs)) [
  | inl there ↦ found-number q (number_of jobs q) moved
      (among-permuted (λ (job : RefreshEntry). job.number) jobs moved permuted (λ x. x.page ≡ q → Some x.number ≡ number_of jobs q) (own-number q jobs one))
      (sym (list_any-IsPermutation (λ (job : RefreshEntry). eqb job.page q) jobs moved permuted) ∙ there)
  | inr none ↦ no-number q moved (sym (list_any-IsPermutation (λ (job : RefreshEntry). eqb job.page q) jobs moved permuted) ∙ none) ∙ sym (no-number q jobs none)
]

pub number_of-reopened : (jobs : List RefreshEntry) (q : ℕ) → IsOne jobs → number_of (map queued_again (by_number (λ (job : RefreshEntry). job.number) jobs)) q ≡ number_of jobs q
number_of-reopened jobs q one =
    number_of-queued_again (by_number number_in jobs) q ∙ moved-number q jobs (by_number number_in jobs) one (by_number-permutes number_in jobs)

pub IsOne-reopened : (jobs : List RefreshEntry) → IsOne jobs → IsOne (map queued_again (by_number (λ (job : RefreshEntry). job.number) jobs))
IsOne-reopened jobs one = IsOneAPage-reopened (record { refreshes = jobs; fans = []; next = 0 }) one
