-- Which tickets are out, by the journal and by the jobs.
use Rattle.std.proofs.Common.{◌≡◌, ◌≢◌, ◌⊎◌, ℕ, zero, suc, ◌+◌, ◌-◌, ◌≤◌, Bool, true, false, cond, eqb, not, List, [], ◌∷◌, ◌++◌, length, map, Option, Some, None, refl, sym, ap, ◌∙◌, inl, inr, subst, arith}
use Rattle.std.specs.Prelude.{find, filter, filter_map, slice_get, is_some, is_none, nat_eq}
use Rattle.std.specs.List.{AllByRecursion, IsDistinct, cons_option}
use Rattle.std.specs.Option.{option_or}
use Rattle.std.proofs.lemmas.Bool.{cases_Bool, eqb-false, eq-eqb, ne_eqb}
use Rattle.std.proofs.lemmas.List.{length-append, append-nil}
use Rattle.std.proofs.lemmas.List.Elements.{filter_map-append}
use Rattle.std.proofs.lemmas.List.Folds.{find-append}
use Rattle.std.proofs.lemmas.Option.{slice_get_within}
use Rattle.wk_wiki_rules.specs.Jobs.{RefreshEntry, JobLists, is_queued, is_held_by, has_refresh, first_claimed, jobs_of_others, queued_again, refresh_queued}
use Rattle.wk_wiki_rules.specs.Steps.{all_queued}
use Rattle.wk_wiki_rules.proofs.Lists.{eqb_flips}
use Rattle.wk_wiki_rules.specs.Events.{Event, Claim}
use Rattle.wk_wiki_rules.specs.Entries.{closes}
use Rattle.wk_wiki_laws.specs.Tickets.{IsOpenClaim}
use Rattle.wk_wiki_laws.proofs.TicketsOut.{out, out-cons, held-ticket}

-- ---- places of a journal

get-front : {X : Type 0} (xs ys : List X) (i : ℕ) (x : X) → slice_get xs i ≡ Some x → slice_get (xs ++ ys) i ≡ Some x
get-front [] ys i x there = absurd (let e : None ≡ Some x = there in cc)
get-front (y ∷ xs) ys zero x there = there
get-front (y ∷ xs) ys (suc i) x there = get-front xs ys i x there

get-last : {X : Type 0} (xs : List X) (y : X) → slice_get (xs ++ y ∷ []) (length xs) ≡ Some y
get-last [] y = refl
get-last (x ∷ xs) y = get-last xs y

get-cases : {X : Type 0} (xs : List X) (y x : X) (i : ℕ) → slice_get (xs ++ y ∷ []) i ≡ Some x → (slice_get xs i ≡ Some x) ⊎ ((i ≡ length xs) × (y ≡ x))
get-cases [] y x zero there = inr (refl, let e : Some y ≡ Some x = there in cc)
get-cases [] y x (suc i) there = absurd (let e : None ≡ Some x = there in cc)
get-cases (z ∷ xs) y x zero there = inl there
get-cases (z ∷ xs) y x (suc i) there = elim (get-cases xs y x i there) [ inl old ↦ inl old | inr new ↦ inr (ap suc new.0, new.1) ]

-- ---- claims that no later event closes

pub within-claim : (events : List Event) (ticket : ℕ) → IsOpenClaim events ticket → ticket ≤ length events
within-claim events ticket is_open =
    let within = slice_get_within events (ticket - 1) Claim is_open.claim in
    let low = is_open.positive in
    omega (arith, within, low)

claim-kept : (events : List Event) (event : Event) (ticket : ℕ) → closes event ≢ Some (ticket - 1) → IsOpenClaim events ticket → IsOpenClaim (events ++ event ∷ []) ticket
claim-kept events event ticket apart is_open = record {
  positive = is_open.positive;
  claim = get-front events (event ∷ []) (ticket - 1) Claim is_open.claim;
  unclosed = λ place later from there. by place later from (get-cases events event later place there);
}
  where
    by : (place : ℕ) (later : Event) → ticket ≤ place → (slice_get events place ≡ Some later) ⊎ ((place ≡ length events) × (event ≡ later)) → closes later ≢ Some (ticket - 1)
    by place later from (inl old) = is_open.unclosed place later from old
    by place later from (inr new) = λ same. apart (ap closes new.1 ∙ same)

claim-new : (events : List Event) → IsOpenClaim (events ++ Claim ∷ []) (length events + 1)
claim-new events = record {
  positive = omega arith;
  claim = let at : length events + 1 - 1 ≡ length events = omega arith in rw at (get-last events Claim);
  unclosed = λ place later from there.
      let within = slice_get_within (events ++ Claim ∷ []) place later there in
      let longer = length-append events (Claim ∷ []) in
      absurd (omega (arith, within, longer, from));
}

claim-before : (events : List Event) (event : Event) (ticket : ℕ) → IsOpenClaim (events ++ event ∷ []) ticket → IsOpenClaim events ticket ⊎ ((event ≡ Claim) × (ticket ≡ length events + 1))
claim-before events event ticket is_open = by (get-cases events event Claim (ticket - 1) is_open.claim)
  where
    by : (slice_get events (ticket - 1) ≡ Some Claim) ⊎ ((ticket - 1 ≡ length events) × (event ≡ Claim)) → IsOpenClaim events ticket ⊎ ((event ≡ Claim) × (ticket ≡ length events + 1))
    by (inl old) = inl (record {
      positive = is_open.positive;
      claim = old;
      unclosed = λ place later from there. is_open.unclosed place later from (get-front events (event ∷ []) place later there);
    })
    by (inr new) = inr (new.1, let low = is_open.positive in let at = new.0 in omega (arith, low, at))

claim-unclosed : (events : List Event) (event : Event) (ticket : ℕ) → IsOpenClaim (events ++ event ∷ []) ticket → IsOpenClaim events ticket → closes event ≢ Some (ticket - 1)
claim-unclosed events event ticket is_open old = is_open.unclosed (length events) event (within-claim events ticket old) (get-last events event)

-- ---- the tickets of jobs

abbrev pub tickets_in : List RefreshEntry → List ℕ
tickets_in jobs = filter_map (λ (job : RefreshEntry). job.ticket) jobs

each-weaker : {X : Type 0} (P Q : X → Type 0) → ((x : X) → P x → Q x) → (xs : List X) → AllByRecursion P xs → AllByRecursion Q xs
each-weaker P Q weaker [] all = tt
each-weaker P Q weaker (x ∷ xs) all = (weaker x all.0, each-weaker P Q weaker xs all.1)

each-both : {X : Type 0} (P Q : X → Type 0) (xs : List X) → AllByRecursion P xs → AllByRecursion Q xs → AllByRecursion (λ x. P x × Q x) xs
each-both P Q [] ps qs = tt
each-both P Q (x ∷ xs) ps qs = ((ps.0, qs.0), each-both P Q xs ps.1 qs.1)

each-rest : (P : ℕ → Type 0) (o : Option ℕ) (ns : List ℕ) → AllByRecursion P (cons_option o ns) → AllByRecursion P ns
each-rest P None ns all = all
each-rest P (Some n) ns all = all.1

each-cons : (P : ℕ → Type 0) (o : Option ℕ) (ns ms : List ℕ) → AllByRecursion P (cons_option o ns) → AllByRecursion P ms → AllByRecursion P (cons_option o ms)
each-cons P None ns ms all more = more
each-cons P (Some n) ns ms all more = (all.0, more)

apart-rest : (o : Option ℕ) (ns : List ℕ) → IsDistinct nat_eq (cons_option o ns) → IsDistinct nat_eq ns
unfolding IsDistinct
apart-rest None ns apart = apart
apart-rest (Some n) ns apart = apart.1

apart-cons : (o : Option ℕ) (ns ms : List ℕ) → ((P : ℕ → Type 0) → AllByRecursion P ns → AllByRecursion P ms) → IsDistinct nat_eq (cons_option o ns) → IsDistinct nat_eq ms → IsDistinct nat_eq (cons_option o ms)
unfolding IsDistinct
apart-cons None ns ms less apart rest = rest
apart-cons (Some n) ns ms less apart rest = (less (λ m. nat_eq n m ≡ false) apart.0, rest)

each-filter : (P : ℕ → Type 0) (p : RefreshEntry → Bool) (jobs : List RefreshEntry) → AllByRecursion P (tickets_in jobs) → AllByRecursion P (tickets_in (filter p jobs))
each-filter P p [] all = all
each-filter P p (job ∷ jobs) all =
    let later = each-filter P p jobs (each-rest P job.ticket (tickets_in jobs) all) in
    elim (p job) as (λ b. AllByRecursion P (tickets_in (cond b (job ∷ filter p jobs) (filter p jobs)))) [
      | true ↦ each-cons P job.ticket (tickets_in jobs) (tickets_in (filter p jobs)) all later
      | false ↦ later
    ]

apart-filter : (p : RefreshEntry → Bool) (jobs : List RefreshEntry) → IsDistinct nat_eq (tickets_in jobs) → IsDistinct nat_eq (tickets_in (filter p jobs))
apart-filter p [] apart = apart
apart-filter p (job ∷ jobs) apart =
    let later = apart-filter p jobs (apart-rest job.ticket (tickets_in jobs) apart) in
    elim (p job) as (λ b. IsDistinct nat_eq (tickets_in (cond b (job ∷ filter p jobs) (filter p jobs)))) [
      | true ↦ apart-cons job.ticket (tickets_in jobs) (tickets_in (filter p jobs)) (λ P all. each-filter P p jobs all) apart later
      | false ↦ later
    ]

pub tickets-again : (jobs : List RefreshEntry) → tickets_in (map queued_again jobs) ≡ []
tickets-again [] = refl
tickets-again (job ∷ jobs) = tickets-again jobs

pub tickets-queued : (lists : JobLists) (page : ℕ) → tickets_in (refresh_queued lists page).refreshes ≡ tickets_in lists.refreshes
tickets-queued lists page = elim (cases_Bool (has_refresh lists page)) [
  | inl there ↦ rw there refl
  | inr none ↦ rw none (filter_map-append (λ (job : RefreshEntry). job.ticket) lists.refreshes (record { number = lists.next; page = page; ticket = None } ∷ []) ∙ append-nil (tickets_in lists.refreshes))
]

pub tickets-all_queued : (lists : JobLists) (pages : List ℕ) → tickets_in (all_queued lists pages).refreshes ≡ tickets_in lists.refreshes
tickets-all_queued lists [] = refl
tickets-all_queued lists (page ∷ pages) = tickets-all_queued (refresh_queued lists page) pages ∙ tickets-queued lists page

each-claimed : (P : ℕ → Type 0) (jobs : List RefreshEntry) (ticket : ℕ) → P ticket → AllByRecursion P (tickets_in jobs) → AllByRecursion P (tickets_in (first_claimed jobs ticket))
each-claimed P [] ticket own all = all
each-claimed P (job ∷ jobs) ticket own all =
    let rest = each-rest P job.ticket (tickets_in jobs) all in
    let later = each-claimed P jobs ticket own rest in
    elim (is_queued job) as (λ b. AllByRecursion P (tickets_in (cond b (record job { ticket = Some ticket } ∷ jobs) (job ∷ first_claimed jobs ticket)))) [
      | true ↦ (own, rest)
      | false ↦ each-cons P job.ticket (tickets_in jobs) (tickets_in (first_claimed jobs ticket)) all later
    ]

apart-claimed : (jobs : List RefreshEntry) (ticket : ℕ) → AllByRecursion (λ n. nat_eq n ticket ≡ false) (tickets_in jobs) → IsDistinct nat_eq (tickets_in jobs) → IsDistinct nat_eq (tickets_in (first_claimed jobs ticket))
unfolding IsDistinct
apart-claimed [] ticket other apart = apart
apart-claimed (job ∷ jobs) ticket other apart =
    let rest = each-rest (λ n. nat_eq n ticket ≡ false) job.ticket (tickets_in jobs) other in
    let apart_rest = apart-rest job.ticket (tickets_in jobs) apart in
    let later = apart-claimed jobs ticket rest apart_rest in
    elim (is_queued job) as (λ b. IsDistinct nat_eq (tickets_in (cond b (record job { ticket = Some ticket } ∷ jobs) (job ∷ first_claimed jobs ticket)))) [
      | true ↦ (each-weaker (λ n. nat_eq n ticket ≡ false) (λ n. nat_eq ticket n ≡ false) (λ n differs. eqb_flips ticket n ∙ differs) (tickets_in jobs) rest, apart_rest)
      | false ↦ behind job.ticket other apart later
    ]
  where
    behind : (o : Option ℕ) → AllByRecursion (λ n. nat_eq n ticket ≡ false) (cons_option o (tickets_in jobs)) → IsDistinct nat_eq (cons_option o (tickets_in jobs)) → IsDistinct nat_eq (tickets_in (first_claimed jobs ticket))
        → IsDistinct nat_eq (cons_option o (tickets_in (first_claimed jobs ticket)))
    behind None others distinct more = more
    behind (Some n) others distinct more = (each-claimed (λ m. nat_eq n m ≡ false) jobs ticket others.0 distinct.0, more)

-- ---- the job of a ticket

held-other : (ticket : ℕ) (job : RefreshEntry) → is_held_by ticket job ≡ false → (P : Option ℕ → Type 0) → P None → ((n : ℕ) → nat_eq n ticket ≡ false → P (Some n)) → P job.ticket
held-other ticket job other P none some = by job.ticket other
  where
    by : (o : Option ℕ) → (elim o as (λ p. Bool) [ None ↦ false | Some held ↦ eqb held ticket ]) ≡ false → P o
    by None differs = none
    by (Some n) differs = some n differs

queued-unheld : (ticket : ℕ) (job : RefreshEntry) → is_queued job ≡ true → is_held_by ticket job ≡ false
queued-unheld ticket job queued = by job.ticket queued
  where
    by : (o : Option ℕ) → is_none o ≡ true → (elim o as (λ p. Bool) [ None ↦ false | Some held ↦ eqb held ticket ]) ≡ false
    by None free = refl
    by (Some n) free = absurd (let e : false ≡ true = free in cc)

pub find-filter : (q p : RefreshEntry → Bool) (jobs : List RefreshEntry) (job : RefreshEntry) → find q jobs ≡ Some job → p job ≡ true → find q (filter p jobs) ≡ Some job
find-filter q p [] job found passes = absurd (let e : None ≡ Some job = found in cc)
find-filter q p (x ∷ jobs) job found passes = elim (cases_Bool (q x)) [
  | inl first ↦
      let got : Some x ≡ Some job = rw first at found in
      let is : x ≡ job = cc in
      let kept : p x ≡ true = subst (λ j. p j ≡ true) (sym is) passes in
      rw (kept, first) got
  | inr other ↦
      let later = find-filter q p jobs job (rw other at found) passes in
      elim (cases_Bool (p x)) [ inl kept ↦ rw (kept, other) later | inr gone ↦ rw gone later ]
]

pub find-front : (q : RefreshEntry → Bool) (xs ys : List RefreshEntry) (job : RefreshEntry) → find q xs ≡ Some job → find q (xs ++ ys) ≡ Some job
find-front q xs ys job found = find-append q xs ys ∙ ap (λ o. option_or o (find q ys)) found

pub find-queued : (q : RefreshEntry → Bool) (lists : JobLists) (page : ℕ) (job : RefreshEntry) → find q lists.refreshes ≡ Some job → find q (refresh_queued lists page).refreshes ≡ Some job
find-queued q lists page job found = elim (cases_Bool (has_refresh lists page)) [
  | inl there ↦ rw there found
  | inr none ↦ rw none (find-front q lists.refreshes (record { number = lists.next; page = page; ticket = None } ∷ []) job found)
]

pub find-all_queued : (q : RefreshEntry → Bool) (lists : JobLists) (pages : List ℕ) (job : RefreshEntry) → find q lists.refreshes ≡ Some job → find q (all_queued lists pages).refreshes ≡ Some job
find-all_queued q lists [] job found = found
find-all_queued q lists (page ∷ pages) job found = find-all_queued q (refresh_queued lists page) pages job (find-queued q lists page job found)

pub find-claimed : (ticket new : ℕ) → new ≢ ticket → (jobs : List RefreshEntry) (job : RefreshEntry) → find (is_held_by ticket) jobs ≡ Some job → find (is_held_by ticket) (first_claimed jobs new) ≡ Some job
find-claimed ticket new apart [] job found = absurd (let e : None ≡ Some job = found in cc)
find-claimed ticket new apart (x ∷ jobs) job found = elim (cases_Bool (is_queued x)) [
  | inl queued ↦
      let unheld = queued-unheld ticket x queued in
      let later : find (is_held_by ticket) jobs ≡ Some job = rw unheld at found in
      let differs = ne_eqb new ticket apart in
      rw (queued, differs) later
  | inr claimed ↦ elim (cases_Bool (is_held_by ticket x)) [
    | inl first ↦ let got : Some x ≡ Some job = rw first at found in rw (claimed, first) got
    | inr other ↦ let later = find-claimed ticket new apart jobs job (rw other at found) in rw (claimed, other) later
  ]
]

find-own : (ticket : ℕ) (jobs : List RefreshEntry) (x : RefreshEntry) → find is_queued jobs ≡ Some x → (job : RefreshEntry) × (find (is_held_by ticket) (first_claimed jobs ticket) ≡ Some job)
find-own ticket [] x found = absurd (let e : None ≡ Some x = found in cc)
find-own ticket (y ∷ jobs) x found = elim (cases_Bool (is_queued y)) [
  | inl queued ↦ let own = eq-eqb ticket ticket refl in (record y { ticket = Some ticket }, rw (queued, own) refl)
  | inr claimed ↦
      let later = find-own ticket jobs x (rw claimed at found) in
      elim (cases_Bool (is_held_by ticket y)) [
        | inl held ↦ (y, rw (claimed, held) refl)
        | inr other ↦ (later.0, rw (claimed, other) later.1)
      ]
]

pub at-find : (Q : ℕ → Type 0) (q : RefreshEntry → Bool) (jobs : List RefreshEntry) (job : RefreshEntry) → AllByRecursion Q (map (λ (j : RefreshEntry). j.page) jobs) → find q jobs ≡ Some job → Q job.page
at-find Q q [] job all found = absurd (let e : None ≡ Some job = found in cc)
at-find Q q (x ∷ jobs) job all found = elim (cases_Bool (q x)) [
  | inl first ↦
      let got : Some x ≡ Some job = rw first at found in
      let is : x ≡ job = cc in
      subst (λ (j : RefreshEntry). Q j.page) is all.0
  | inr other ↦ at-find Q q jobs job all.1 (rw other at found)
]

-- jobs of two tickets are of two pages
pub pages-differ : (t u : ℕ) → t ≢ u → (jobs : List RefreshEntry) (a b : RefreshEntry) → IsDistinct nat_eq (map (λ (j : RefreshEntry). j.page) jobs) → find (is_held_by t) jobs ≡ Some a → find (is_held_by u) jobs ≡ Some b → a.page ≢ b.page
unfolding IsDistinct
pages-differ t u apart [] a b distinct first second = absurd (let e : None ≡ Some a = first in cc)
pages-differ t u apart (j ∷ jobs) a b distinct first second = elim (cases_Bool (is_held_by t j)) [
  | inl of_t ↦
      let got : Some j ≡ Some a = rw of_t at first in
      let is_a : j ≡ a = cc in
      elim (cases_Bool (is_held_by u j)) [
        | inl of_u ↦ absurd (let e : Some t ≡ Some u = sym (held-ticket t j of_t) ∙ held-ticket u j of_u in let same : t ≡ u = cc in apart same)
        | inr not_u ↦
            let differs = at-find (λ n. nat_eq j.page n ≡ false) (is_held_by u) jobs b distinct.0 (rw not_u at second) in
            λ same. eqb-false j.page b.page differs (ap (λ (x : RefreshEntry). x.page) is_a ∙ same)
      ]
  | inr not_t ↦ elim (cases_Bool (is_held_by u j)) [
    | inl of_u ↦
        let got : Some j ≡ Some b = rw of_u at second in
        let is_b : j ≡ b = cc in
        let differs = at-find (λ n. nat_eq j.page n ≡ false) (is_held_by t) jobs a distinct.0 (rw not_t at first) in
        λ same. eqb-false j.page a.page differs (ap (λ (x : RefreshEntry). x.page) is_b ∙ sym same)
    | inr not_u ↦ pages-differ t u apart jobs a b distinct.1 (rw not_t at first) (rw not_u at second)
  ]
]

-- a ticket isn't among those that are left where its job goes
none-left : (ticket : ℕ) (p : RefreshEntry → Bool) (jobs : List RefreshEntry) (job : RefreshEntry) → IsDistinct nat_eq (tickets_in jobs) → find (is_held_by ticket) jobs ≡ Some job → p job ≡ false → AllByRecursion (λ n. nat_eq n ticket ≡ false) (tickets_in (filter p jobs))
unfolding IsDistinct
none-left ticket p [] job apart found gone = tt
none-left ticket p (x ∷ jobs) job apart found gone = elim (cases_Bool (is_held_by ticket x)) [
  | inl held ↦
      let got : Some x ≡ Some job = rw held at found in
      let is : x ≡ job = cc in
      let dropped : p x ≡ false = subst (λ j. p j ≡ false) (sym is) gone in
      let own = subst (λ o. IsDistinct nat_eq (cons_option o (tickets_in jobs))) (held-ticket ticket x held) apart in
      rw dropped (each-filter (λ n. nat_eq n ticket ≡ false) p jobs
      (each-weaker (λ n. nat_eq ticket n ≡ false) (λ n. nat_eq n ticket ≡ false) (λ n differs. eqb_flips n ticket ∙ differs) (tickets_in jobs) own.0))
  | inr other ↦
      let later = none-left ticket p jobs job (apart-rest x.ticket (tickets_in jobs) apart) (rw other at found) gone in
      elim (p x) as (λ b. AllByRecursion (λ n. nat_eq n ticket ≡ false) (tickets_in (cond b (x ∷ filter p jobs) (filter p jobs)))) [
        | true ↦ held-other ticket x other (λ o. AllByRecursion (λ n. nat_eq n ticket ≡ false) (cons_option o (tickets_in (filter p jobs)))) later (λ n differs. (differs, later))
        | false ↦ later
      ]
]

-- ---- what is true of the tickets that are out

pub record AreTickets (events : List Event) (jobs : List RefreshEntry) : Type 0 where
  pub open_ones : AllByRecursion (IsOpenClaim events) (tickets_in jobs)
  pub apart : IsDistinct nat_eq (tickets_in jobs)
  pub held : (ticket : ℕ) → IsOpenClaim events ticket → (job : RefreshEntry) × (find (is_held_by ticket) jobs ≡ Some job)

no-tickets : (jobs : List RefreshEntry) → out jobs ≡ 0 → tickets_in jobs ≡ []
no-tickets [] none = refl
no-tickets (job ∷ jobs) none = by job.ticket (out-cons job jobs) (no-tickets jobs)
  where
    by : (o : Option ℕ) → out (job ∷ jobs) ≡ cond (is_some o) 1 0 + out jobs → (out jobs ≡ 0 → tickets_in jobs ≡ []) → cons_option o (tickets_in jobs) ≡ []
    by None sum later = later (omega (arith, sum, none))
    by (Some n) sum later = absurd (omega (arith, sum, none))

pub AreTickets-none : (jobs : List RefreshEntry) → out jobs ≡ 0 → AreTickets [] jobs
unfolding IsDistinct
AreTickets-none jobs none = record {
  open_ones = rw (no-tickets jobs none) tt;
  apart = rw (no-tickets jobs none) tt;
  held = λ ticket is_open. absurd (let got = is_open.claim in let e : None ≡ Some Claim = got in cc);
}

-- an event that neither claims nor closes
pub AreTickets-other : (events : List Event) (event : Event) (jobs after : List RefreshEntry) → closes event ≡ None → event ≢ Claim → tickets_in after ≡ tickets_in jobs
    → ((ticket : ℕ) (job : RefreshEntry) → find (is_held_by ticket) jobs ≡ Some job → find (is_held_by ticket) after ≡ Some job) → AreTickets events jobs → AreTickets (events ++ event ∷ []) after
AreTickets-other events event jobs after no_close no_claim same finds were = record {
  open_ones = rw same (each-weaker (IsOpenClaim events) (IsOpenClaim (events ++ event ∷ [])) (λ n is_open. claim-kept events event n (λ e. let wrong : None ≡ Some (n - 1) = sym no_close ∙ e in cc) is_open) (tickets_in jobs) were.open_ones);
  apart = rw same were.apart;
  held = λ ticket is_open. by ticket (claim-before events event ticket is_open);
}
  where
    by : (ticket : ℕ) → IsOpenClaim events ticket ⊎ ((event ≡ Claim) × (ticket ≡ length events + 1)) → (job : RefreshEntry) × (find (is_held_by ticket) after ≡ Some job)
    by ticket (inl old) = let job = were.held ticket old in (job.0, finds ticket job.0 job.1)
    by ticket (inr new) = absurd (no_claim new.0)

pub AreTickets-claim : (events : List Event) (jobs : List RefreshEntry) (x : RefreshEntry) → find is_queued jobs ≡ Some x → AreTickets events jobs → AreTickets (events ++ Claim ∷ []) (first_claimed jobs (length events + 1))
AreTickets-claim events jobs x queued were = record {
  open_ones = each-claimed (IsOpenClaim (events ++ Claim ∷ [])) jobs (length events + 1) (claim-new events)
      (each-weaker (IsOpenClaim events) (IsOpenClaim (events ++ Claim ∷ [])) (λ n is_open. claim-kept events Claim n (λ e. let wrong : None ≡ Some (n - 1) = e in cc) is_open) (tickets_in jobs) were.open_ones);
  apart = apart-claimed jobs (length events + 1)
      (each-weaker (IsOpenClaim events) (λ n. nat_eq n (length events + 1) ≡ false) (λ n is_open. let low = within-claim events n is_open in ne_eqb n (length events + 1) (λ same. omega (arith, low, same))) (tickets_in jobs) were.open_ones) were.apart;
  held = λ ticket is_open. by ticket (claim-before events Claim ticket is_open);
}
  where
    by : (ticket : ℕ) → IsOpenClaim events ticket ⊎ ((Claim ≡ Claim) × (ticket ≡ length events + 1)) → (job : RefreshEntry) × (find (is_held_by ticket) (first_claimed jobs (length events + 1)) ≡ Some job)
    by ticket (inl old) =
        let job = were.held ticket old in
        let low = within-claim events ticket old in
        (job.0, find-claimed ticket (length events + 1) (λ same. omega (arith, low, same)) jobs job.0 job.1)
    by ticket (inr new) = subst (λ n. (job : RefreshEntry) × (find (is_held_by n) (first_claimed jobs (length events + 1)) ≡ Some job)) (sym new.1) (find-own (length events + 1) jobs x queued)

-- an event by which a ticket comes in
pub AreTickets-closed : (events : List Event) (event : Event) (ticket : ℕ) (jobs more : List RefreshEntry) (job : RefreshEntry) → closes event ≡ Some (ticket - 1) → event ≢ Claim → find (is_held_by ticket) jobs ≡ Some job → tickets_in more ≡ []
    → IsDistinct nat_eq (map (λ (j : RefreshEntry). j.page) jobs) → IsOpenClaim events ticket → AreTickets events jobs → AreTickets (events ++ event ∷ []) (jobs_of_others job.page jobs ++ more)
AreTickets-closed events event ticket jobs more job closing no_claim found none pages own were = record {
  open_ones = rw same (each-weaker (λ n. IsOpenClaim events n × (nat_eq n ticket ≡ false)) (IsOpenClaim (events ++ event ∷ [])) still (tickets_in (jobs_of_others job.page jobs))
      (each-both (IsOpenClaim events) (λ n. nat_eq n ticket ≡ false) (tickets_in (jobs_of_others job.page jobs)) (each-filter (IsOpenClaim events) (λ (j : RefreshEntry). not (eqb j.page job.page)) jobs were.open_ones)
      (none-left ticket (λ (j : RefreshEntry). not (eqb j.page job.page)) jobs job were.apart found gone)));
  apart = rw same (apart-filter (λ (j : RefreshEntry). not (eqb j.page job.page)) jobs were.apart);
  held = λ other is_open. by other is_open (claim-before events event other is_open);
}
  where
    gone : not (eqb job.page job.page) ≡ false
    gone = ap not (eq-eqb job.page job.page refl)

    same : tickets_in (jobs_of_others job.page jobs ++ more) ≡ tickets_in (jobs_of_others job.page jobs)
    same = filter_map-append (λ (j : RefreshEntry). j.ticket) (jobs_of_others job.page jobs) more ∙ (ap (λ ns. tickets_in (jobs_of_others job.page jobs) ++ ns) none ∙ append-nil (tickets_in (jobs_of_others job.page jobs)))

    still : (n : ℕ) → IsOpenClaim events n × (nat_eq n ticket ≡ false) → IsOpenClaim (events ++ event ∷ []) n
    still n both = claim-kept events event n
        (λ e.
        let places : Some (ticket - 1) ≡ Some (n - 1) = sym closing ∙ e in
        let at : ticket - 1 ≡ n - 1 = cc in
        let is_open = both.0 in
        let low = is_open.positive in
        let low_own = own.positive in
        eqb-false n ticket both.1 (omega (arith, at, low, low_own)))
        both.0

    by : (other : ℕ) → IsOpenClaim (events ++ event ∷ []) other → IsOpenClaim events other ⊎ ((event ≡ Claim) × (other ≡ length events + 1)) → (j : RefreshEntry) × (find (is_held_by other) (jobs_of_others job.page jobs ++ more) ≡ Some j)
    by other is_open (inl old) =
        let apart : other ≢ ticket = (λ e. claim-unclosed events event other is_open old (closing ∙ ap (λ n. Some (n - 1)) (sym e))) in
        let held = were.held other old in
        let differ = pages-differ other ticket apart jobs held.0 job pages held.1 found in
        let passes : not (eqb held.0.page job.page) ≡ true = ap not (ne_eqb held.0.page job.page differ) in
        (held.0, find-front (is_held_by other) (jobs_of_others job.page jobs) more held.0 (find-filter (is_held_by other) (λ (j : RefreshEntry). not (eqb j.page job.page)) jobs held.0 held.1 passes))
    by other is_open (inr new) = absurd (no_claim new.0)
