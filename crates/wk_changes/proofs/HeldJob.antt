-- The job that is claimed by a ticket is the one that is found by its page.
use Rattle.std.proofs.Common.{◌≡◌, ℕ, true, false, eqb, List, [], ◌∷◌, map, Some, None, IsSome, is_some, refl, ap, inl, inr, subst}
use Rattle.std.specs.Prelude.{Bool, find}
use Rattle.std.specs.List.{AllByRecursion, IsDistinct, list_any}
use Rattle.std.proofs.lemmas.Bool.{cases_Bool, eq-eqb}
use Rattle.wk_wiki_rules.specs.Jobs.{RefreshEntry, JobLists, IsOneAPage, has_refresh, is_held_by}
use Rattle.wk_jobs.specs.Entries.{job_of}
use Rattle.wk_wiki_rules.specs.TableChanges.{job_held_by}

-- what is true of all is true of the one that is found
of-found : {X : Type 0} (P : X → Type 0) (p : X → Bool) (xs : List X) (x : X) → AllByRecursion P xs → find p xs ≡ Some x → P x
of-found P p [] x all is = absurd (let e : None ≡ Some x = is in cc)
of-found P p (y ∷ xs) x all is = elim (cases_Bool (p y)) [
  | inl here ↦ let e : Some y ≡ Some x = rw here at is in let same : y ≡ x = cc in subst P same all.0
  | inr other ↦ of-found P p xs x all.1 (rw other at is)
]

each-page : (q : ℕ) (jobs : List RefreshEntry) → AllByRecursion (λ m. eqb q m ≡ false) (map (λ (job : RefreshEntry). job.page) jobs) → AllByRecursion (λ (job : RefreshEntry). eqb q job.page ≡ false) jobs
each-page q [] all = tt
each-page q (job ∷ jobs) all = (all.0, each-page q jobs all.1)

found-by-page : (p : RefreshEntry → Bool) (jobs : List RefreshEntry) (job : RefreshEntry) → IsDistinct eqb (map (λ (job : RefreshEntry). job.page) jobs) → find p jobs ≡ Some job → find (λ other. eqb other.page job.page) jobs ≡ Some job
unfolding IsDistinct
found-by-page p [] job one is = absurd (let e : None ≡ Some job = is in cc)
found-by-page p (first ∷ jobs) job one is = elim (cases_Bool (p first)) [
  | inl here ↦
      let e : Some first ≡ Some job = rw here at is in
      let same : first ≡ job = cc in
      let own : eqb first.page job.page ≡ true = eq-eqb first.page job.page (ap (λ (x : RefreshEntry). x.page) same) in
      rw own e
  | inr later ↦
      let is' : find p jobs ≡ Some job = rw later at is in
      let other : eqb first.page job.page ≡ false = of-found (λ (x : RefreshEntry). eqb first.page x.page ≡ false) p jobs job (each-page first.page jobs one.0) is' in
      rw other (found-by-page p jobs job one.1 is')
]

pub held-by-page : (lists : JobLists) (ticket page : ℕ) (job : RefreshEntry) → IsOneAPage lists → job_held_by lists ticket ≡ Some job → job.page ≡ page → job_of lists.refreshes page ≡ Some job
held-by-page lists ticket page job one held at =
    subst (λ q. find (λ (other : RefreshEntry). eqb other.page q) lists.refreshes ≡ Some job) at (found-by-page (is_held_by ticket) lists.refreshes job one held)

pub there : (lists : JobLists) (page : ℕ) → has_refresh lists page ≡ true → IsSome (job_of lists.refreshes page)
there lists page has = by lists.refreshes has
  where
    by : (jobs : List RefreshEntry) → list_any (λ (job : RefreshEntry). eqb job.page page) jobs ≡ true → IsSome (find (λ (job : RefreshEntry). eqb job.page page) jobs)
    by [] none = absurd (let e : false ≡ true = none in cc)
    by (job ∷ jobs) some = elim (cases_Bool (eqb job.page page)) [
      | inl here ↦ rw here refl
      | inr other ↦ rw other (by jobs (rw other at some))
    ]

-- a page has a refresh job exactly where one is found
pub has-is : (lists : JobLists) (page : ℕ) → has_refresh lists page ≡ is_some (job_of lists.refreshes page)
has-is lists page = by lists.refreshes
  where
    by : (jobs : List RefreshEntry) → list_any (λ (job : RefreshEntry). eqb job.page page) jobs ≡ is_some (find (λ (job : RefreshEntry). eqb job.page page) jobs)
    by [] = refl
    by (job ∷ jobs) = elim (cases_Bool (eqb job.page page)) [ inl here ↦ rw here refl | inr other ↦ rw other (by jobs) ]
