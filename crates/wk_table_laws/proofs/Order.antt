-- The order of numbers, against filters and maps.
use Rattle.std.proofs.Common.{◌≡◌, ℕ, ◌+◌, ◌<◌, ◌≤◌, true, false, cond, ltb, List, [], ◌∷◌, ◌++◌, map, fold, max, Option, Some, None, refl, sym, ap, ◌∙◌, inl, inr, arith}
use Rattle.std.specs.Prelude.{⊤}
use Rattle.std.specs.List.{AllByRecursion, filter_map, cons_option}
use Rattle.std.proofs.lemmas.Bool.{cases_Bool, ltb-true, ltb-false, lt-ltb, le-ltb}
use Rattle.std.proofs.lemmas.List.{append-nil, append_assoc}
use Rattle.wk_wiki_rules.specs.Steps.{placed, by_number, next_above}
use Rattle.wk_table_laws.specs.InOrder.{Rises}

pub each-weaker : {X : Type 0} (P Q : X → Type 0) → ((x : X) → P x → Q x) → (xs : List X) → AllByRecursion P xs → AllByRecursion Q xs
each-weaker P Q weaker [] all = tt
each-weaker P Q weaker (x ∷ xs) all = (weaker x all.0, each-weaker P Q weaker xs all.1)

module _ {Row : Type 0} (id : Row → ℕ) where
  -- no row stands before one with a lesser number
  abbrev pub Sorted : List Row → Type 0
  Sorted [] = ⊤
  Sorted (row ∷ rows) = AllByRecursion (λ later. id row ≤ id later) rows × Sorted rows

  pub each-placed : (P : Row → Type 0) (rows : List Row) (new : Row) → P new → AllByRecursion P rows → AllByRecursion P (placed id rows new)
  each-placed P [] new own all = (own, tt)
  each-placed P (row ∷ rows) new own all =
      let behind = each-placed P rows new own all.1 in
      elim (ltb (id new) (id row)) as (λ b. AllByRecursion P (cond b (new ∷ row ∷ rows) (row ∷ placed id rows new))) [
        | true ↦ (own, all)
        | false ↦ (all.0, behind)
      ]

  Sorted-placed : (rows : List Row) (new : Row) → Sorted rows → Sorted (placed id rows new)
  Sorted-placed [] new sorted = (tt, tt)
  Sorted-placed (row ∷ rows) new sorted = elim (cases_Bool (ltb (id new) (id row))) [
    | inl before ↦ let near : id new < id row = ltb-true (id new) (id row) before in
        rw before (
          (let le : id new ≤ id row = omega arith in le, each-weaker (λ later. id row ≤ id later) (λ later. id new ≤ id later) (λ later far. omega arith) rows sorted.0),
          sorted,
        )
    | inr behind ↦ rw behind (
      each-placed (λ later. id row ≤ id later) rows new (ltb-false (id new) (id row) behind) sorted.0,
      Sorted-placed rows new sorted.1,
    )
  ]

  module _ {Job : Type 0} (number : Job → ℕ) (h : Row → Option Job) (keeps : (row : Row) (job : Job) → h row ≡ Some job → number job ≡ id row) where
    -- the jobs with one more, where there is one
    placed_option : List Job → Option Job → List Job
    placed_option jobs None = jobs
    placed_option jobs (Some job) = placed number jobs job

    above-cons : (n : ℕ) (row : Row) (jobs : List Job) (o : Option Job) → h row ≡ o → n < id row → AllByRecursion (λ job. n < number job) jobs → AllByRecursion (λ job. n < number job) (cons_option o jobs)
    above-cons n row jobs None e far all = all
    above-cons n row jobs (Some job) e far all = (let same : number job ≡ id row = keeps row job e in let le : n < number job = omega arith in le, all)

    each-filter_map : (n : ℕ) (rows : List Row) → AllByRecursion (λ row. n < id row) rows → AllByRecursion (λ job. n < number job) (filter_map h rows)
    each-filter_map n [] all = tt
    each-filter_map n (row ∷ rows) all = above-cons n row (filter_map h rows) (h row) refl all.0 (each-filter_map n rows all.1)

    cons-first : (new : Row) (jobs : List Job) (o : Option Job) → h new ≡ o → AllByRecursion (λ job. id new < number job) jobs → cons_option o jobs ≡ placed_option jobs o
    unfolding placed_option
    cons-first new jobs None e all = refl
    cons-first new jobs (Some job) e all =
        let same : number job ≡ id new = keeps new job e in
        sym (number-first jobs job (each-weaker (λ later. id new < number later) (λ later. number job < number later) (λ later far. omega arith) jobs all))
      where
        number-first : (jobs : List Job) (new : Job) → AllByRecursion (λ later. number new < number later) jobs → placed number jobs new ≡ new ∷ jobs
        number-first [] new all = refl
        number-first (job ∷ jobs) new all = rw (lt-ltb (number new) (number job) all.0) refl

    cons-behind : (row new : Row) (jobs : List Job) (p o : Option Job) → h row ≡ p → h new ≡ o → id row ≤ id new → cons_option p (placed_option jobs o) ≡ placed_option (cons_option p jobs) o
    unfolding placed_option
    cons-behind row new jobs None o e e' le = refl
    cons-behind row new jobs (Some first) None e e' le = refl
    cons-behind row new jobs (Some first) (Some job) e e' le =
        let same : number first ≡ id row = keeps row first e in
        let same' : number job ≡ id new = keeps new job e' in
        rw (le-ltb (number job) (number first) (omega arith)) refl

    -- a filter of rows in order, with one more row
    filter_map-placed : (rows : List Row) (new : Row) → Sorted rows → filter_map h (placed id rows new) ≡ placed_option (filter_map h rows) (h new)
    filter_map-placed [] new sorted = cons-first new [] (h new) refl tt
    filter_map-placed (row ∷ rows) new sorted = elim (cases_Bool (ltb (id new) (id row))) [
      | inl before ↦
          let near : id new < id row = ltb-true (id new) (id row) before in
          rw before (cons-first new (filter_map h (row ∷ rows)) (h new) refl (each-filter_map (id new) (row ∷ rows)
          (near, each-weaker (λ later. id row ≤ id later) (λ later. id new < id later) (λ later far. omega arith) rows sorted.0)))
      | inr behind ↦ rw (behind, filter_map-placed rows new sorted.1)
          (cons-behind row new (filter_map h rows) (h row) (h new) refl refl (ltb-false (id new) (id row) behind))
    ]

    placed-all : (jobs : List Job) (o : Option Job) (more : List Row) → fold (placed number) (placed_option jobs o) (filter_map h more) ≡ fold (placed number) jobs (cons_option o (filter_map h more))
    unfolding placed_option
    placed-all jobs None more = refl
    placed-all jobs (Some job) more = refl

    filter_map-fold : (before rows : List Row) → Sorted before → filter_map h (fold (placed id) before rows) ≡ fold (placed number) (filter_map h before) (filter_map h rows)
    filter_map-fold before [] sorted = refl
    filter_map-fold before (row ∷ rows) sorted =
        filter_map-fold (placed id before row) rows (Sorted-placed before row sorted)
        ∙ (ap (λ jobs. fold (placed number) jobs (filter_map h rows)) (filter_map-placed before row sorted) ∙ placed-all (filter_map h before) (h row) rows)

    -- what rows in order stand for is in order
    pub filter_map-by_number : (rows : List Row) → filter_map h (by_number id rows) ≡ by_number number (filter_map h rows)
    filter_map-by_number rows = filter_map-fold [] rows tt

-- jobs are put in order before or after a change that leaves their numbers
module _ {A B : Type 0} (f : A → B) (m : A → ℕ) (n : B → ℕ) (same : (a : A) → n (f a) ≡ m a) where
  placed-map : (xs : List A) (x : A) → placed n (map f xs) (f x) ≡ map f (placed m xs x)
  placed-map [] x = refl
  placed-map (y ∷ xs) x = rw (same x, same y, placed-map xs x)
      (elim (ltb (m x) (m y)) as (λ b. cond b (f x ∷ f y ∷ map f xs) (f y ∷ map f (placed m xs x)) ≡ map f (cond b (x ∷ y ∷ xs) (y ∷ placed m xs x))) [ true ↦ refl | false ↦ refl ])

  fold-map : (before xs : List A) → fold (placed n) (map f before) (map f xs) ≡ map f (fold (placed m) before xs)
  fold-map before [] = refl
  fold-map before (x ∷ xs) = ap (λ ys. fold (placed n) ys (map f xs)) (placed-map before x) ∙ fold-map (placed m before x) xs

  pub by_number-map : (xs : List A) → by_number n (map f xs) ≡ map f (by_number m xs)
  by_number-map xs = fold-map [] xs

-- jobs that stand in order stay so
module _ {Job : Type 0} (number : Job → ℕ) where
  last-placed : (jobs : List Job) (new : Job) → AllByRecursion (λ job. number job ≤ number new) jobs → placed number jobs new ≡ jobs ++ new ∷ []
  last-placed [] new all = refl
  last-placed (job ∷ jobs) new all = rw (le-ltb (number new) (number job) all.0, last-placed jobs new all.1) refl

  each-front : (P : Job → Type 0) (xs ys : List Job) → AllByRecursion P xs → AllByRecursion P ys → AllByRecursion P (xs ++ ys)
  each-front P [] ys front back = back
  each-front P (x ∷ xs) ys front back = (front.0, each-front P xs ys front.1 back)

  each-map : (P : ℕ → Type 0) (jobs : List Job) → AllByRecursion P (map number jobs) → AllByRecursion (λ job. P (number job)) jobs
  each-map P [] all = tt
  each-map P (job ∷ jobs) all = (all.0, each-map P jobs all.1)

  Below : List Job → List Job → Type 0
  Below before jobs = AllByRecursion (λ later. AllByRecursion (λ job. number job ≤ number later) before) jobs

  fold-rising : (before jobs : List Job) → Below before jobs → Rises (map number jobs) → fold (placed number) before jobs ≡ before ++ jobs
  unfolding Below
  fold-rising before [] below rises = sym (append-nil before)
  fold-rising before (job ∷ jobs) below rises =
      ap (λ xs. fold (placed number) xs jobs) (last-placed before job below.0)
      ∙ (fold-rising (before ++ job ∷ []) jobs (more jobs below.1 (each-map (λ n. number job < n) jobs rises.0)) rises.1 ∙ append_assoc before (job ∷ []) jobs)
    where
      more : (rest : List Job) → AllByRecursion (λ later. AllByRecursion (λ other. number other ≤ number later) before) rest → AllByRecursion (λ later. number job < number later) rest
          → AllByRecursion (λ later. AllByRecursion (λ other. number other ≤ number later) (before ++ job ∷ [])) rest
      more [] below above = tt
      more (later ∷ rest) below above =
          (each-front (λ other. number other ≤ number later) before (job ∷ []) below.0 (let far : number job < number later = above.0 in let le : number job ≤ number later = omega arith in le, tt), more rest below.1 above.1)

  pub by_number-rising : (jobs : List Job) → Rises (map number jobs) → by_number number jobs ≡ jobs
  unfolding Below
  by_number-rising jobs rises = fold-rising [] jobs (nothing jobs) rises
    where
      nothing : (rest : List Job) → AllByRecursion (λ later. AllByRecursion (λ other. number other ≤ number later) []) rest
      nothing [] = tt
      nothing (later ∷ rest) = (tt, nothing rest)

-- jobs in order stay as they are
module _ {Job : Type 0} (number : Job → ℕ) where
  Sorted-fold : (before jobs : List Job) → Sorted number before → Sorted number (fold (placed number) before jobs)
  Sorted-fold before [] sorted = sorted
  Sorted-fold before (job ∷ jobs) sorted = Sorted-fold (placed number before job) jobs (Sorted-placed number before job sorted)

  pub Sorted-by_number : (jobs : List Job) → Sorted number (by_number number jobs)
  Sorted-by_number jobs = Sorted-fold [] jobs tt

  NotAbove : List Job → List Job → Type 0
  NotAbove before jobs = AllByRecursion (λ later. AllByRecursion (λ job. number job ≤ number later) before) jobs

  fold-sorted : (before jobs : List Job) → NotAbove before jobs → Sorted number jobs → fold (placed number) before jobs ≡ before ++ jobs
  unfolding NotAbove
  fold-sorted before [] under sorted = sym (append-nil before)
  fold-sorted before (job ∷ jobs) under sorted =
      ap (λ xs. fold (placed number) xs jobs) (last-placed number before job under.0)
      ∙ (fold-sorted (before ++ job ∷ []) jobs (more jobs under.1 sorted.0) sorted.1 ∙ append_assoc before (job ∷ []) jobs)
    where
      more : (rest : List Job) → AllByRecursion (λ later. AllByRecursion (λ other. number other ≤ number later) before) rest → AllByRecursion (λ later. number job ≤ number later) rest
          → AllByRecursion (λ later. AllByRecursion (λ other. number other ≤ number later) (before ++ job ∷ [])) rest
      more [] under above = tt
      more (later ∷ rest) under above = (each-front number (λ other. number other ≤ number later) before (job ∷ []) under.0 (above.0, tt), more rest under.1 above.1)

  pub by_number-sorted : (jobs : List Job) → Sorted number jobs → by_number number jobs ≡ jobs
  unfolding NotAbove
  by_number-sorted jobs sorted = fold-sorted [] jobs (nothing jobs) sorted
    where
      nothing : (rest : List Job) → AllByRecursion (λ later. AllByRecursion (λ other. number other ≤ number later) []) rest
      nothing [] = tt
      nothing (later ∷ rest) = (tt, nothing rest)

  pub by_number-twice : (jobs : List Job) → by_number number (by_number number jobs) ≡ by_number number jobs
  by_number-twice jobs = by_number-sorted (by_number number jobs) (Sorted-by_number jobs)

-- ---- the greatest number

max-swap : (a x y : ℕ) → max (max a x) y ≡ max (max a y) x
max-swap a x y = omega arith

greatest-out : (a x : ℕ) (ns : List ℕ) → fold max (max a x) ns ≡ max (fold max a ns) x
greatest-out a x [] = refl
greatest-out a x (n ∷ ns) = ap (λ b. fold max b ns) (max-swap a x n) ∙ greatest-out (max a n) x ns

greatest-placed : {Row : Type 0} (id : Row → ℕ) (a : ℕ) (rows : List Row) (new : Row) → fold max a (map id (placed id rows new)) ≡ max (fold max a (map id rows)) (id new)
greatest-placed id a [] new = refl
greatest-placed id a (row ∷ rows) new = elim (cases_Bool (ltb (id new) (id row))) [
  | inl before ↦ rw before (ap (λ b. fold max b (map id rows)) (max-swap a (id new) (id row)) ∙ greatest-out (max a (id row)) (id new) (map id rows))
  | inr behind ↦ rw behind (greatest-placed id (max a (id row)) rows new)
]

pub greatest-fold : {Row : Type 0} (id : Row → ℕ) (before rows : List Row) → fold max 0 (map id (fold (placed id) before rows)) ≡ fold max (fold max 0 (map id before)) (map id rows)
greatest-fold id before [] = refl
greatest-fold id before (row ∷ rows) = greatest-fold id (placed id before row) rows ∙ ap (λ a. fold max a (map id rows)) (greatest-placed id 0 before row)

pub next_above-by_number : {Row : Type 0} (id : Row → ℕ) (rows : List Row) → next_above (map id (by_number id rows)) ≡ next_above (map id rows)
next_above-by_number id rows = ap (λ n. n + 1) (greatest-fold id [] rows)
