-- The refresh jobs as they are held: what a claim, a return and a removal do to the lists, and to the numbers by page.
use Rattle.std.proofs.Common.{◌≡◌, ℕ, zero, suc, ◌+◌, ◌<◌, Bool, true, false, cond, eqb, ◌||◌, ◌&&◌, not, List, [], ◌∷◌, ◌++◌, length, map, take, get_or, Option, Some, None, refl, sym, ap, ◌∙◌, inl, inr, subst, arith}
use Rattle.std.specs.Prelude.{find, is_some, option_map, count_by}
use Rattle.std.specs.Option.{option_or}
use Rattle.std.specs.List.{AllByRecursion, IsDistinct, list_any, remove}
use Rattle.std.proofs.lemmas.Bool.{cases_Bool, or_parts, eqb-true}
use Rattle.std.proofs.lemmas.List.{append_assoc, map-append, take_more}
use Rattle.std.proofs.lemmas.List.Elements.{filter-append}
use Rattle.std.proofs.lemmas.List.Folds.{list_any-append}
use Rattle.std.proofs.lemmas.List.Sums.{sum_by-append}
use Rattle.wk_wiki_rules.specs.Jobs.{RefreshEntry, JobLists, is_queued, is_claimed, is_held_by, first_claimed, jobs_of, jobs_of_others, queued_again}
use Rattle.wk_wiki_rules.proofs.Lists.{eqb_flips, IsDistinct-push, list_any-map}
use Rattle.wk_wiki_rules.proofs.JobLemmas.{IsOneAPage-claimed, IsOneAPage-given_back, IsOneAPage-dropped}
use Rattle.wk_jobs.specs.Entries.{claimed_entry, queued_entry, entries, job_of, number_of}
use Rattle.wk_jobs.specs.declared.refreshes.ClaimedJob.{ClaimedJob}
use Rattle.wk_jobs.specs.declared.refreshes.QueuedJob.{QueuedJob}

-- ---- a claim

pub first_claimed-entries : (cs : List ClaimedJob) (q : QueuedJob) (qs : List QueuedJob) (ticket : ℕ)
    → first_claimed (entries cs (q ∷ qs)) ticket ≡ entries (cs ++ record { number = q.number; page = q.page; ticket = ticket } ∷ []) qs
first_claimed-entries [] q qs ticket = refl
first_claimed-entries (c ∷ cs) q qs ticket = ap (λ jobs. claimed_entry c ∷ jobs) (first_claimed-entries cs q qs ticket)

pub first_claimed-none : (cs : List ClaimedJob) (ticket : ℕ) → first_claimed (entries cs []) ticket ≡ entries cs []
first_claimed-none [] ticket = refl
first_claimed-none (c ∷ cs) ticket = ap (λ jobs. claimed_entry c ∷ jobs) (first_claimed-none cs ticket)

pub first_queued-entries : (cs : List ClaimedJob) (q : QueuedJob) (qs : List QueuedJob) → find is_queued (entries cs (q ∷ qs)) ≡ Some (queued_entry q)
first_queued-entries [] q qs = refl
first_queued-entries (c ∷ cs) q qs = first_queued-entries cs q qs

pub first_queued-none : (cs : List ClaimedJob) → find is_queued (entries cs []) ≡ None
first_queued-none [] = refl
first_queued-none (c ∷ cs) = first_queued-none cs

-- ---- what a ticket claims

held-of-queued : (qs : List QueuedJob) (ticket : ℕ) → find (is_held_by ticket) (map queued_entry qs) ≡ None
held-of-queued [] ticket = refl
held-of-queued (q ∷ qs) ticket = held-of-queued qs ticket

pub held-entries : (cs : List ClaimedJob) (qs : List QueuedJob) (ticket : ℕ)
    → option_map (λ (job : RefreshEntry). job.page) (find (is_held_by ticket) (entries cs qs)) ≡ option_map (λ (job : ClaimedJob). job.page) (find (λ (job : ClaimedJob). eqb job.ticket ticket) cs)
held-entries [] qs ticket = ap (option_map (λ (job : RefreshEntry). job.page)) (held-of-queued qs ticket)
held-entries (c ∷ cs) qs ticket = elim (cases_Bool (eqb c.ticket ticket)) [
  | inl here ↦ rw here refl
  | inr other ↦ rw other (held-entries cs qs ticket)
]

-- ---- how many

count-more : (p : RefreshEntry → Bool) (job : RefreshEntry) (jobs : List RefreshEntry) → count_by p (job ∷ jobs) ≡ count_by p (job ∷ []) + count_by p jobs
count-more p job jobs = sum_by-append (λ other. cond (p other) 1 0) (job ∷ []) jobs

count-waiting : (qs : List QueuedJob) → count_by is_queued (map queued_entry qs) ≡ length qs
count-waiting [] = refl
count-waiting (q ∷ qs) = let later = count-waiting qs in let first = count-more is_queued (queued_entry q) (map queued_entry qs) in omega arith

pub count-queued : (cs : List ClaimedJob) (qs : List QueuedJob) → count_by is_queued (entries cs qs) ≡ length qs
count-queued [] qs = count-waiting qs
count-queued (c ∷ cs) qs = count-queued cs qs

no-claimed : (qs : List QueuedJob) → count_by is_claimed (map queued_entry qs) ≡ 0
no-claimed [] = refl
no-claimed (q ∷ qs) = no-claimed qs

pub count-claimed : (cs : List ClaimedJob) (qs : List QueuedJob) → count_by is_claimed (entries cs qs) ≡ length cs
count-claimed [] qs = no-claimed qs
count-claimed (c ∷ cs) qs = let later = count-claimed cs qs in let first = count-more is_claimed (claimed_entry c) (entries cs qs) in omega arith

-- ---- the jobs of a page

abbrev pub IsOne : List RefreshEntry → Type 0
IsOne jobs = IsDistinct eqb (map (λ (job : RefreshEntry). job.page) jobs)

no-page : (n page : ℕ) (jobs : List RefreshEntry) → AllByRecursion (λ other. eqb n other ≡ false) (map (λ (job : RefreshEntry). job.page) jobs) → n ≡ page → list_any (λ job. eqb job.page page) jobs ≡ false
no-page n page [] apart same = refl
no-page n page (job ∷ jobs) apart same =
    let off : eqb job.page page ≡ false = eqb_flips job.page page ∙ subst (λ m. eqb m job.page ≡ false) same apart.0 in
    rw off (no-page n page jobs apart.1 same)

each-front : (P : ℕ → Type 0) (xs ys : List RefreshEntry) → AllByRecursion P (map (λ (job : RefreshEntry). job.page) (xs ++ ys)) → AllByRecursion P (map (λ (job : RefreshEntry). job.page) xs)
each-front P [] ys all = tt
each-front P (x ∷ xs) ys all = (all.0, each-front P xs ys all.1)

pub IsOne-front : (xs ys : List RefreshEntry) → IsOne (xs ++ ys) → IsOne xs
unfolding IsDistinct
IsOne-front [] ys one = tt
IsOne-front (x ∷ xs) ys one = (each-front (λ other. eqb x.page other ≡ false) xs ys one.0, IsOne-front xs ys one.1)

module _ (page : ℕ) where
  others-all : (jobs : List RefreshEntry) → list_any (λ job. eqb job.page page) jobs ≡ false → jobs_of_others page jobs ≡ jobs
  others-all [] none = refl
  others-all (job ∷ jobs) none =
      let parts = or_parts (eqb job.page page) (list_any (λ other. eqb other.page page) jobs) none in
      rw (parts.0, others-all jobs parts.1) refl

  own-none : (jobs : List RefreshEntry) → list_any (λ job. eqb job.page page) jobs ≡ false → jobs_of page jobs ≡ []
  own-none [] none = refl
  own-none (job ∷ jobs) none =
      let parts = or_parts (eqb job.page page) (list_any (λ other. eqb other.page page) jobs) none in
      rw (parts.0, own-none jobs parts.1) refl

  -- a claimed job of the page is claimed among the claimed ones
  pub claimed-there : (cs : List ClaimedJob) (qs : List QueuedJob) → list_any (λ job. eqb job.page page && is_claimed job) (entries cs qs) ≡ list_any (λ job. eqb job.page page) cs
  claimed-there [] [] = refl
  claimed-there [] (q ∷ qs) = let later = claimed-there [] qs in elim (eqb q.page page) as (λ b. ((b && false) || list_any (λ job. eqb job.page page && is_claimed job) (map queued_entry qs)) ≡ false) [ true ↦ later | false ↦ later ]
  claimed-there (c ∷ cs) qs = let later = claimed-there cs qs in elim (eqb c.page page) as (λ b. ((b && true) || list_any (λ job. eqb job.page page && is_claimed job) (entries cs qs)) ≡ (b || list_any (λ job. eqb job.page page) cs)) [ true ↦ refl | false ↦ later ]

  -- a page of a claimed job has none that is queued
  pub none-queued : (cs : List ClaimedJob) (qs : List QueuedJob) → IsOne (entries cs qs) → list_any (λ job. eqb job.page page) cs ≡ true → list_any (λ job. eqb job.page page) (map queued_entry qs) ≡ false
  unfolding IsDistinct
  none-queued [] qs one there = absurd (let e : false ≡ true = there in cc)
  none-queued (c ∷ cs) qs one there = elim (cases_Bool (eqb c.page page)) [
    | inl same ↦
        let none = no-page c.page page (entries cs qs) one.0 (eqb-true c.page page same) in
        (or_parts (list_any (λ job. eqb job.page page) (map claimed_entry cs)) (list_any (λ job. eqb job.page page) (map queued_entry qs))
        (sym (list_any-append (λ (job : RefreshEntry). eqb job.page page) (map claimed_entry cs) (map queued_entry qs)) ∙ none)).1
    | inr other ↦ none-queued cs qs one.1 (rw other at there)
  ]

  -- a claimed job is taken out
  pub taken-out : (cs : List ClaimedJob) (k : ℕ) (d : ClaimedJob) → k < length cs → eqb (get_or cs k d).page page ≡ true → ((j : ℕ) → j < k → eqb (get_or cs j d).page page ≡ false)
      → IsOne (map claimed_entry cs)
      → (map claimed_entry (remove cs k) ≡ jobs_of_others page (map claimed_entry cs)) × (jobs_of page (map claimed_entry cs) ≡ claimed_entry (get_or cs k d) ∷ [])
  unfolding IsDistinct
  taken-out [] k d inside here before one = absurd (omega arith)
  taken-out (c ∷ cs) zero d inside here before one =
      let none = no-page c.page page (map claimed_entry cs) one.0 (eqb-true c.page page here) in
      (rw (here, others-all (map claimed_entry cs) none) refl, rw (here, own-none (map claimed_entry cs) none) refl)
  taken-out (c ∷ cs) (suc k) d inside here before one =
      let later = taken-out cs k d (omega arith) here (λ j l. before (suc j) (omega arith)) one.1 in
      let other : eqb c.page page ≡ false = before zero (omega arith) in
      (rw (other, ← later.0) refl, rw (other, later.1) refl)

  others-entries : (cs cs' : List ClaimedJob) (qs : List QueuedJob) → map claimed_entry cs' ≡ jobs_of_others page (map claimed_entry cs)
      → list_any (λ job. eqb job.page page) (map queued_entry qs) ≡ false → entries cs' qs ≡ jobs_of_others page (entries cs qs)
  others-entries cs cs' qs others none =
      ap (λ jobs. jobs ++ map queued_entry qs) others
      ∙ ap (λ jobs. jobs_of_others page (map claimed_entry cs) ++ jobs) (sym (others-all (map queued_entry qs) none))
      ∙ sym (filter-append (λ (job : RefreshEntry). not (eqb job.page page)) (map claimed_entry cs) (map queued_entry qs))

  pub dropped-entries : (cs cs' : List ClaimedJob) (qs : List QueuedJob) → map claimed_entry cs' ≡ jobs_of_others page (map claimed_entry cs)
      → IsOne (entries cs qs) → list_any (λ job. eqb job.page page) cs ≡ true → entries cs' qs ≡ jobs_of_others page (entries cs qs)
  dropped-entries cs cs' qs others one there = others-entries cs cs' qs others (none-queued cs qs one there)

  -- a claimed job is queued at the end
  pub given_back-entries : (cs cs' : List ClaimedJob) (qs : List QueuedJob) (job : ClaimedJob) → map claimed_entry cs' ≡ jobs_of_others page (map claimed_entry cs)
      → jobs_of page (map claimed_entry cs) ≡ claimed_entry job ∷ [] → IsOne (entries cs qs) → list_any (λ job. eqb job.page page) cs ≡ true
      → entries cs' (qs ++ record { number = job.number; page = job.page } ∷ []) ≡ jobs_of_others page (entries cs qs) ++ map queued_again (jobs_of page (entries cs qs))
  given_back-entries cs cs' qs job others own one there =
      let none = none-queued cs qs one there in
      let mine : jobs_of page (entries cs qs) ≡ claimed_entry job ∷ [] =
      filter-append (λ (job : RefreshEntry). eqb job.page page) (map claimed_entry cs) (map queued_entry qs) ∙ rw (own, own-none (map queued_entry qs) none) refl in
      let last : QueuedJob = record { number = job.number; page = job.page } in
      ap (λ jobs. map claimed_entry cs' ++ jobs) (map-append queued_entry qs (last ∷ []))
      ∙ sym (append_assoc (map claimed_entry cs') (map queued_entry qs) (queued_entry last ∷ []))
      ∙ ap (λ jobs. jobs ++ queued_entry last ∷ []) (others-entries cs cs' qs others none)
      ∙ ap (λ jobs. jobs_of_others page (entries cs qs) ++ map queued_again jobs) (sym mine)

-- ---- a page has one job

abbrev lists_of : List RefreshEntry → JobLists
lists_of jobs = record { refreshes = jobs; fans = []; next = 0 }

pub IsOne-claimed : (jobs : List RefreshEntry) (ticket : ℕ) → IsOne jobs → IsOne (first_claimed jobs ticket)
IsOne-claimed jobs ticket one = IsOneAPage-claimed (lists_of jobs) ticket one

pub IsOne-given_back : (jobs : List RefreshEntry) (page : ℕ) → IsOne jobs → IsOne (jobs_of_others page jobs ++ map queued_again (jobs_of page jobs))
IsOne-given_back jobs page one = IsOneAPage-given_back (lists_of jobs) page one

pub IsOne-dropped : (jobs : List RefreshEntry) (page : ℕ) → IsOne jobs → IsOne (jobs_of_others page jobs)
IsOne-dropped jobs page one = IsOneAPage-dropped (lists_of jobs) page one

pub IsOne-pushed : (jobs : List RefreshEntry) (new : RefreshEntry) → list_any (λ job. eqb job.page new.page) jobs ≡ false → IsOne jobs → IsOne (jobs ++ new ∷ [])
IsOne-pushed jobs new none one =
    rw (map-append (λ (job : RefreshEntry). job.page) jobs (new ∷ []))
    (IsDistinct-push eqb (map (λ (job : RefreshEntry). job.page) jobs) new.page one (list_any-map (λ n. eqb n new.page) (λ (job : RefreshEntry). job.page) jobs ∙ none))

-- a job more that is queued
pub pushed-entries : (cs : List ClaimedJob) (qs : List QueuedJob) (q : QueuedJob) → entries cs (qs ++ q ∷ []) ≡ entries cs qs ++ queued_entry q ∷ []
pushed-entries cs qs q =
    ap (λ jobs. map claimed_entry cs ++ jobs) (map-append queued_entry qs (q ∷ [])) ∙ sym (append_assoc (map claimed_entry cs) (map queued_entry qs) (queued_entry q ∷ []))

-- ---- a page's job, and its number

pub is_some-number_of : (jobs : List RefreshEntry) (page : ℕ) → is_some (number_of jobs page) ≡ list_any (λ job. eqb job.page page) jobs
is_some-number_of [] page = refl
is_some-number_of (job ∷ jobs) page =
    let later = is_some-number_of jobs page in
    elim (eqb job.page page) as (λ b. is_some (option_map (λ (found : RefreshEntry). found.number) (cond b (Some job) (find (λ other. eqb other.page page) jobs))) ≡ (b || list_any (λ other. eqb other.page page) jobs)) [
      | true ↦ refl
      | false ↦ later
    ]

pub number_of-here : (job : RefreshEntry) (jobs : List RefreshEntry) (page : ℕ) → eqb job.page page ≡ true → number_of (job ∷ jobs) page ≡ Some job.number
number_of-here job jobs page here = rw here refl

pub number_of-later : (job : RefreshEntry) (jobs : List RefreshEntry) (page : ℕ) → eqb job.page page ≡ false → number_of (job ∷ jobs) page ≡ number_of jobs page
number_of-later job jobs page other = rw other refl

pub number_of-pushed : (jobs : List RefreshEntry) (new : RefreshEntry) (page : ℕ) → list_any (λ job. eqb job.page new.page) jobs ≡ false
    → number_of (jobs ++ new ∷ []) page ≡ cond (eqb new.page page) (Some new.number) (number_of jobs page)
number_of-pushed [] new page none = elim (eqb new.page page) as (λ b. option_map (λ (found : RefreshEntry). found.number) (cond b (Some new) None) ≡ cond b (Some new.number) None) [ true ↦ refl | false ↦ refl ]
number_of-pushed (job ∷ jobs) new page none =
    let parts = or_parts (eqb job.page new.page) (list_any (λ other. eqb other.page new.page) jobs) none in
    elim (cases_Bool (eqb job.page page)) [
      | inl here ↦
          let off : eqb new.page page ≡ false = subst (λ n. eqb new.page n ≡ false) (eqb-true job.page page here) (eqb_flips new.page job.page ∙ parts.0) in
          number_of-here job (jobs ++ new ∷ []) page here ∙ rw (off, here) refl
      | inr other ↦
          number_of-later job (jobs ++ new ∷ []) page other ∙ (number_of-pushed jobs new page parts.1 ∙ ap (cond (eqb new.page page) (Some new.number)) (sym (number_of-later job jobs page other)))
    ]

pub number_of-others : (jobs : List RefreshEntry) (page q : ℕ) → number_of (jobs_of_others page jobs) q ≡ cond (eqb page q) None (number_of jobs q)
number_of-others [] page q = elim (eqb page q) as (λ b. ◌≡◌ {A = Option ℕ} None (cond b None None)) [ true ↦ refl | false ↦ refl ]
number_of-others (job ∷ jobs) page q = elim (cases_Bool (eqb job.page page)) [
  | inl gone ↦ elim (cases_Bool (eqb page q)) [
    | inl here ↦ rw gone (number_of-others jobs page q ∙ rw here refl)
    | inr other ↦
        let off : eqb job.page q ≡ false = subst (λ n. eqb n q ≡ false) (sym (eqb-true job.page page gone)) other in
        rw gone (number_of-others jobs page q ∙ ap (cond (eqb page q) None) (sym (number_of-later job jobs q off)))
  ]
  | inr stays ↦ elim (cases_Bool (eqb job.page q)) [
    | inl here ↦
        let off : eqb page q ≡ false = subst (λ n. eqb page n ≡ false) (eqb-true job.page q here) (eqb_flips page job.page ∙ stays) in
        rw stays (number_of-here job (jobs_of_others page jobs) q here ∙ rw (off, here) refl)
    | inr other ↦ rw stays (number_of-later job (jobs_of_others page jobs) q other ∙ (number_of-others jobs page q ∙ ap (cond (eqb page q) None) (sym (number_of-later job jobs q other))))
  ]
]

number_of-own : (jobs : List RefreshEntry) (page q : ℕ) → number_of (jobs_of page jobs) q ≡ cond (eqb page q) (number_of jobs q) None
number_of-own [] page q = elim (eqb page q) as (λ b. ◌≡◌ {A = Option ℕ} None (cond b None None)) [ true ↦ refl | false ↦ refl ]
number_of-own (job ∷ jobs) page q = elim (cases_Bool (eqb job.page page)) [
  | inl own ↦ elim (cases_Bool (eqb job.page q)) [
    | inl here ↦
        let on : eqb page q ≡ true = subst (λ n. eqb n q ≡ true) (eqb-true job.page page own) here in
        rw own (number_of-here job (jobs_of page jobs) q here ∙ rw (on, here) refl)
    | inr other ↦ rw own (number_of-later job (jobs_of page jobs) q other ∙ (number_of-own jobs page q ∙ ap (λ o. cond (eqb page q) o None) (sym (number_of-later job jobs q other))))
  ]
  | inr off ↦ elim (cases_Bool (eqb page q)) [
    | inl here ↦
        let apart : eqb job.page q ≡ false = subst (λ n. eqb job.page n ≡ false) (eqb-true page q here) off in
        rw off (number_of-own jobs page q ∙ ap (λ o. cond (eqb page q) o None) (sym (number_of-later job jobs q apart)))
    | inr other ↦ rw off (number_of-own jobs page q ∙ rw other refl)
  ]
]

number_of-append : (xs ys : List RefreshEntry) (page : ℕ) → number_of (xs ++ ys) page ≡ option_or (number_of xs page) (number_of ys page)
number_of-append [] ys page = refl
number_of-append (x ∷ xs) ys page = elim (cases_Bool (eqb x.page page)) [
  | inl here ↦ number_of-here x (xs ++ ys) page here ∙ ap (λ o. option_or o (number_of ys page)) (sym (number_of-here x xs page here))
  | inr other ↦ number_of-later x (xs ++ ys) page other ∙ (number_of-append xs ys page ∙ ap (λ o. option_or o (number_of ys page)) (sym (number_of-later x xs page other)))
]

pub number_of-queued_again : (jobs : List RefreshEntry) (page : ℕ) → number_of (map queued_again jobs) page ≡ number_of jobs page
number_of-queued_again [] page = refl
number_of-queued_again (job ∷ jobs) page = elim (cases_Bool (eqb job.page page)) [
  | inl here ↦ number_of-here (queued_again job) (map queued_again jobs) page here ∙ sym (number_of-here job jobs page here)
  | inr other ↦ number_of-later (queued_again job) (map queued_again jobs) page other ∙ (number_of-queued_again jobs page ∙ sym (number_of-later job jobs page other))
]

pub number_of-given_back : (jobs : List RefreshEntry) (whose page : ℕ) → number_of (jobs_of_others whose jobs ++ map queued_again (jobs_of whose jobs)) page ≡ number_of jobs page
number_of-given_back jobs whose page =
    number_of-append (jobs_of_others whose jobs) (map queued_again (jobs_of whose jobs)) page
    ∙ (ap (option_or (number_of (jobs_of_others whose jobs) page)) (number_of-queued_again (jobs_of whose jobs) page ∙ number_of-own jobs whose page)
    ∙ (ap (λ o. option_or o (cond (eqb whose page) (number_of jobs page) None)) (number_of-others jobs whose page) ∙ either (eqb whose page) (number_of jobs page)))
  where
    or-none : (o : Option ℕ) → option_or o None ≡ o
    or-none None = refl
    or-none (Some n) = refl

    either : (b : Bool) (o : Option ℕ) → option_or (cond b None o) (cond b o None) ≡ o
    either true o = refl
    either false o = or-none o

pub number_of-first_claimed : (jobs : List RefreshEntry) (ticket page : ℕ) → number_of (first_claimed jobs ticket) page ≡ number_of jobs page
number_of-first_claimed [] ticket page = refl
number_of-first_claimed (job ∷ jobs) ticket page = elim (cases_Bool (is_queued job)) [
  | inl queued ↦ rw queued (elim (cases_Bool (eqb job.page page)) [
    | inl here ↦ number_of-here (record job { ticket = Some ticket }) jobs page here ∙ sym (number_of-here job jobs page here)
    | inr other ↦ number_of-later (record job { ticket = Some ticket }) jobs page other ∙ sym (number_of-later job jobs page other)
  ])
  | inr claimed ↦ rw claimed (elim (cases_Bool (eqb job.page page)) [
    | inl here ↦ number_of-here job (first_claimed jobs ticket) page here ∙ sym (number_of-here job jobs page here)
    | inr other ↦ number_of-later job (first_claimed jobs ticket) page other ∙ (number_of-first_claimed jobs ticket page ∙ sym (number_of-later job jobs page other))
  ])
]

-- the job of a page that has a claimed one
pub job_of-claimed : (cs : List ClaimedJob) (qs : List QueuedJob) (page k : ℕ) (d : ClaimedJob) → k < length cs → eqb (get_or cs k d).page page ≡ true → ((j : ℕ) → j < k → eqb (get_or cs j d).page page ≡ false)
    → job_of (entries cs qs) page ≡ Some (claimed_entry (get_or cs k d))
job_of-claimed [] qs page k d inside here before = absurd (omega arith)
job_of-claimed (c ∷ cs) qs page zero d inside here before = rw here refl
job_of-claimed (c ∷ cs) qs page (suc k) d inside here before =
    let other : eqb c.page page ≡ false = before zero (omega arith) in
    rw other (job_of-claimed cs qs page k d (omega arith) here (λ j l. before (suc j) (omega arith)))

-- the job of a page that has no claimed one
job_of-waiting : (qs : List QueuedJob) (page : ℕ) → job_of (map queued_entry qs) page ≡ option_map (λ (number : ℕ). record { number = number; page = page; ticket = None }) (number_of (map queued_entry qs) page)
job_of-waiting [] page = refl
job_of-waiting (q ∷ qs) page = elim (cases_Bool (eqb q.page page)) [
  | inl here ↦
      let own : ℕ → RefreshEntry = λ p. record { number = q.number; page = p; ticket = None } in
      rw here (ap (λ p. Some (own p)) (eqb-true q.page page here))
  | inr other ↦ rw other (job_of-waiting qs page)
]

pub job_of-queued : (cs : List ClaimedJob) (qs : List QueuedJob) (page : ℕ) → list_any (λ job. eqb job.page page) cs ≡ false
    → job_of (entries cs qs) page ≡ option_map (λ (number : ℕ). record { number = number; page = page; ticket = None }) (number_of (entries cs qs) page)
job_of-queued [] qs page none = job_of-waiting qs page
job_of-queued (c ∷ cs) qs page none =
    let parts = or_parts (eqb c.page page) (list_any (λ other. eqb other.page page) cs) none in
    rw parts.0 (job_of-queued cs qs page parts.1)

-- ---- a list that is written

pub listed-more : {X Y : Type 0} (entry : X → Y) (jobs : List Y) (xs : List X) (i : ℕ) (d : X) → i < length xs
    → (jobs ++ map entry (take i xs)) ++ entry (get_or xs i d) ∷ [] ≡ jobs ++ map entry (take (i + 1) xs)
listed-more entry jobs xs i d inside =
    append_assoc jobs (map entry (take i xs)) (entry (get_or xs i d) ∷ [])
    ∙ ap (λ l. jobs ++ l) (sym (ap (map entry) (take_more xs i d inside) ∙ map-append entry (take i xs) (get_or xs i d ∷ [])))
