-- Laws of plans: what is met over a source hangs on the answers that were read, and on nothing else.
use Rattle.std.proofs.Common.{◌≡◌, ℕ, ℤ, Bool, true, false, ◌&&◌, List, [], ◌∷◌, ◌++◌, inl, inr, refl, sym, ◌∙◌, ap, subst, Option, Some, None}
use Rattle.std.specs.List.{list_any}
use Rattle.std.specs.Ordering.{int_eq}
use Rattle.std.specs.Str.{bytes_eq}
use Rattle.std.proofs.lemmas.Bool.{cases_Bool}
use Rattle.std.proofs.lemmas.Bool.Decides.{Decides-int_eq}
use Rattle.std.proofs.lemmas.List.Elements.{All-pop, All-push}
use Rattle.std.proofs.lemmas.List.Folds.{Any-from_list_any, list_any-append}
use Rattle.std.proofs.lemmas.Slice.Eq.{bytes_eq-Decides}
use Rattle.wk_text_rules.specs.Titles.{PageTitle, title_eq}
use Rattle.wk_view_rules.specs.Plans.{Plan, gives, asks, and_then, Outcome, done, need, noted, run, reads_of, IsDone, NeedsOrReads}
use Rattle.wk_view_rules.specs.Worlds.{Answer, Read, Source, World, of_world, ask, answer_in, is_read_of, kind_eq, Agrees}
use Rattle.wk_view_rules.specs.declared.Kind.{Kind}
use Rattle.wk_view_laws.specs.Plans.{goes_on}
use Rattle.wk_view_rules.specs.declared.Kind.TheVariants.{View, Include, Exists}

-- ---- tests on pairs of title and kind

pub both_parts : (a b : Bool) → (a && b) ≡ true → (a ≡ true) × (b ≡ true)
both_parts true true e = (refl, refl)
both_parts true false e = cc
both_parts false b e = cc

abbrev titled : ℤ → List ℕ → PageTitle
titled ns key = record { ns = ns; key = key }

pub title_eq-true : (a b : PageTitle) → title_eq a b ≡ true → a ≡ b
title_eq-true a b e =
    let parts = both_parts (int_eq a.ns b.ns) (bytes_eq a.key b.key) e in
    ap (λ ns. titled ns a.key) ((Decides-int_eq a.ns b.ns).0 parts.0) ∙ ap (titled b.ns) ((bytes_eq-Decides a.key b.key).0 parts.1)

pub title_eq-same : (a : PageTitle) → title_eq a a ≡ true
title_eq-same a = rw ((Decides-int_eq a.ns a.ns).1 refl, (bytes_eq-Decides a.key a.key).1 refl) refl

pub kind_eq-true : (a b : Kind) → kind_eq a b ≡ true → a ≡ b
kind_eq-true View View e = refl
kind_eq-true Include Include e = refl
kind_eq-true Exists Exists e = refl
kind_eq-true View Include e = cc
kind_eq-true View Exists e = cc
kind_eq-true Include View e = cc
kind_eq-true Include Exists e = cc
kind_eq-true Exists View e = cc
kind_eq-true Exists Include e = cc

pub kind_eq-same : (a : Kind) → kind_eq a a ≡ true
kind_eq-same View = refl
kind_eq-same Include = refl
kind_eq-same Exists = refl

pub is_read_of-same : (r : Read) → is_read_of r.title r.kind r ≡ true
is_read_of-same r = rw (title_eq-same r.title, kind_eq-same r.kind) refl

-- ---- reads with one more

-- the pair is among the reads with this read noted
pub noted-has : (before : List Read) (r : Read) → list_any (is_read_of r.title r.kind) (noted before r) ≡ true
noted-has before r = elim (cases_Bool (list_any (is_read_of r.title r.kind) before)) [
  | inl there ↦ rw there there
  | inr missing ↦ rw (missing, list_any-append, missing, is_read_of-same r) refl
]

-- a pair that was read is among the reads with one more noted
pub noted-keeps : (before : List Read) (r : Read) (title : PageTitle) (kind : Kind) → list_any (is_read_of title kind) before ≡ true → list_any (is_read_of title kind) (noted before r) ≡ true
noted-keeps before r title kind e = elim (cases_Bool (list_any (is_read_of r.title r.kind) before)) [
  | inl there ↦ rw there e
  | inr missing ↦ rw (missing, list_any-append, e) refl
]

-- what agrees with the reads, and gives the answer, agrees with the answer noted
pub noted-agrees : (source : Source) (before : List Read) (r : Read) → Agrees source before → ask source r.title r.kind ≡ Some r.answer → Agrees source (noted before r)
noted-agrees source before r agrees e = elim (cases_Bool (list_any (is_read_of r.title r.kind) before)) [
  | inl there ↦ rw there agrees
  | inr missing ↦ rw missing (All-push (λ (q : Read). ask source q.title q.kind ≡ Some q.answer) before r agrees e)
]

pub agrees-before : (source : Source) (before : List Read) (r : Read) → Agrees source (noted before r) → Agrees source before
agrees-before source before r = elim (cases_Bool (list_any (is_read_of r.title r.kind) before)) [
  | inl there ↦ rw there (λ h. h)
  | inr missing ↦ rw missing (λ h. (All-pop (λ (q : Read). ask source q.title q.kind ≡ Some q.answer) (before ++ r ∷ []) before (Some r) refl h).0)
]

-- two sources that agree with the reads answer alike what was read
pub same_answer : (a b : Source) (reads : List Read) (title : PageTitle) (kind : Kind) → Agrees a reads → Agrees b reads → list_any (is_read_of title kind) reads ≡ true → ask a title kind ≡ ask b title kind
same_answer a b reads title kind agrees_a agrees_b e =
    let found = Any-from_list_any (is_read_of title kind) reads e in
    let r : Read = found.1 in
    let parts = both_parts (title_eq r.title title) (kind_eq r.kind kind) found.4 in
    let by_a : ask a r.title r.kind ≡ Some r.answer = rw found.3 at (agrees_a found.0 r found.2) in
    let by_b : ask b r.title r.kind ≡ Some r.answer = rw found.3 at (agrees_b found.0 r found.2) in
    let of_title : r.title ≡ title = title_eq-true r.title title parts.0 in
    let of_kind : r.kind ≡ kind = kind_eq-true r.kind kind parts.1 in
    subst (λ t. ask a t kind ≡ ask b t kind) of_title (subst (λ k. ask a r.title k ≡ ask b r.title k) of_kind (by_a ∙ sym by_b))

-- ---- a world answers all

pub IsDone-run : {A : Type 0} (pages : World) (p : Plan A) (before : List Read) → IsDone (run (of_world pages) p before)
unfolding run
IsDone-run pages (gives x) before = tt
IsDone-run pages (asks title kind more) before = IsDone-run pages (more (answer_in pages title kind)) _

-- ---- the law

-- a question, met by an answer or by none
abbrev pub met : {A : Type 0} → Source → PageTitle → Kind → (Answer → Plan A) → List Read → Option Answer → Outcome A
met source title kind more reads answered = elim answered [
  | None ↦ need title kind reads
  | Some answer ↦ run source (more answer) (noted reads (record { title = title; kind = kind; answer = answer }))
]

pub run-asks : {A : Type 0} (source : Source) (title : PageTitle) (kind : Kind) (more : Answer → Plan A) (reads : List Read) → run source (asks title kind more) reads ≡ met source title kind more reads (ask source title kind)
unfolding run
run-asks source title kind more reads = refl

-- what agrees with all reads agrees with those that there were before
pub agrees-run : {A : Type 0} (b a : Source) (p : Plan A) (before : List Read) → Agrees b (reads_of (run a p before)) → Agrees b before
unfolding run
agrees-run b a (gives x) before h = h
agrees-run b a (asks title kind more) before h =
    (elim (ask a title kind) as (λ o. Agrees b (reads_of (met a title kind more before o)) → Agrees b before) [
      | None ↦ λ here. here
      | Some answer ↦ λ here. agrees-before b before _ (agrees-run b a (more answer) _ here)
    ]) h

-- a pair that was read stays among the reads
pub reads-run : {A : Type 0} (a : Source) (p : Plan A) (before : List Read) (title : PageTitle) (kind : Kind) → list_any (is_read_of title kind) before ≡ true → list_any (is_read_of title kind) (reads_of (run a p before)) ≡ true
unfolding run
reads-run a (gives x) before title kind h = h
reads-run a (asks asked_title asked_kind more) before title kind h =
    elim (ask a asked_title asked_kind) as (λ o. list_any (is_read_of title kind) (reads_of (met a asked_title asked_kind more before o)) ≡ true) [
      | None ↦ h
      | Some answer ↦ reads-run a (more answer) _ title kind (noted-keeps before _ title kind h)
    ]

-- the reads hold the source's own answers
pub agrees-itself : {A : Type 0} (a : Source) (p : Plan A) (before : List Read) → Agrees a before → Agrees a (reads_of (run a p before))
unfolding run
agrees-itself a (gives x) before h = h
agrees-itself a (asks title kind more) before h = go (ask a title kind) refl (λ answer e. agrees-itself a (more answer) _ (noted-agrees a before _ h e))
  where
    go : (o : Option Answer) → ask a title kind ≡ o → ((answer : Answer) → ask a title kind ≡ Some answer → Agrees a (reads_of (run a (more answer) (noted before (record { title = title; kind = kind; answer = answer }))))) → Agrees a (reads_of (met a title kind more before o))
    go None e later = h
    go (Some answer) e later = later answer e

-- ---- the same end over another source

-- where a source is asked what another one answered, with the later reads known to agree, it answers the same
pub answers_alike : {A : Type 0} (a b : Source) (title : PageTitle) (kind : Kind) (p : Plan A) (before : List Read) (answer : Answer) → Agrees a before → ask a title kind ≡ Some answer → Agrees b (reads_of (run a p (noted before (record { title = title; kind = kind; answer = answer })))) → ask b title kind ≡ Some answer
answers_alike a b title kind p before answer agrees e later =
    let r : Read = record { title = title; kind = kind; answer = answer } in
    let noted_b : Agrees b (noted before r) = agrees-run b a p (noted before r) later in
    sym (same_answer a b (noted before r) title kind (noted-agrees a before r agrees e) noted_b (noted-has before r)) ∙ e

done_asks : {A : Type 0} (a b : Source) (title : PageTitle) (kind : Kind) (more : Answer → Plan A) (before : List Read) (x : A) (after : List Read) → Agrees a before → Agrees b after → ((answer : Answer) (reads : List Read) → Agrees a reads → run a (more answer) reads ≡ done x after → run b (more answer) reads ≡ done x after) → (o : Option Answer) → ask a title kind ≡ o → met a title kind more before o ≡ done x after → met b title kind more before (ask b title kind) ≡ done x after
done_asks a b title kind more before x after agrees agrees_b later None e end = cc
done_asks a b title kind more before x after agrees agrees_b later (Some answer) e end =
    let r : Read = record { title = title; kind = kind; answer = answer } in
    let e_b : ask b title kind ≡ Some answer = answers_alike a b title kind (more answer) before answer agrees e (subst (λ o. Agrees b (reads_of o)) (sym end) agrees_b) in
    ap (met b title kind more before) e_b ∙ later answer (noted before r) (noted-agrees a before r agrees e) end

-- An end with a value is the same over each source that agrees with the reads.
pub done-elsewhere : {A : Type 0} (a b : Source) (p : Plan A) (before : List Read) (x : A) (after : List Read) → Agrees a before → Agrees b after → run a p before ≡ done x after → run b p before ≡ done x after
unfolding run
done-elsewhere a b (gives y) before x after agrees agrees_b end = end
done-elsewhere a b (asks title kind more) before x after agrees agrees_b end =
    done_asks a b title kind more before x after agrees agrees_b
    (λ answer reads here next. done-elsewhere a b (more answer) reads x after here agrees_b next)
    (ask a title kind) refl end

need_asks : {A : Type 0} (a b : Source) (title : PageTitle) (kind : Kind) (more : Answer → Plan A) (before : List Read) (wanted : PageTitle) (as_kind : Kind) (after : List Read) → Agrees a before → Agrees b after → ((answer : Answer) (reads : List Read) → Agrees a reads → run a (more answer) reads ≡ need wanted as_kind after → NeedsOrReads wanted as_kind after (run b (more answer) reads)) → (o : Option Answer) → ask a title kind ≡ o → met a title kind more before o ≡ need wanted as_kind after → NeedsOrReads wanted as_kind after (met b title kind more before (ask b title kind))
need_asks a b title kind more before wanted as_kind after agrees agrees_b later None e end =
    let same_title : title ≡ wanted = cc in
    let same_kind : kind ≡ as_kind = cc in
    elim (ask b title kind) as (λ o. NeedsOrReads wanted as_kind after (met b title kind more before o)) [
      | None ↦ inl end
      | Some answer ↦
          let r : Read = record { title = title; kind = kind; answer = answer } in
          let there : list_any (is_read_of wanted as_kind) (noted before r) ≡ true =
          subst (λ t. list_any (is_read_of t as_kind) (noted before r) ≡ true) same_title
          (subst (λ k. list_any (is_read_of title k) (noted before r) ≡ true) same_kind (noted-has before r))
          in
          inr (reads-run b (more answer) (noted before r) wanted as_kind there)
    ]
need_asks a b title kind more before wanted as_kind after agrees agrees_b later (Some answer) e end =
    let r : Read = record { title = title; kind = kind; answer = answer } in
    let e_b : ask b title kind ≡ Some answer = answers_alike a b title kind (more answer) before answer agrees e (subst (λ o. Agrees b (reads_of o)) (sym end) agrees_b) in
    subst (λ o. NeedsOrReads wanted as_kind after (met b title kind more before o)) (sym e_b) (later answer (noted before r) (noted-agrees a before r agrees e) end)

-- A need is the same over each source that agrees with the reads before it, or is met there.
pub need-elsewhere : {A : Type 0} (a b : Source) (p : Plan A) (before : List Read) (wanted : PageTitle) (as_kind : Kind) (after : List Read) → Agrees a before → Agrees b after → run a p before ≡ need wanted as_kind after → NeedsOrReads wanted as_kind after (run b p before)
unfolding run
need-elsewhere a b (gives y) before wanted as_kind after agrees agrees_b end = inl end
need-elsewhere a b (asks title kind more) before wanted as_kind after agrees agrees_b end =
    need_asks a b title kind more before wanted as_kind after agrees agrees_b
    (λ answer reads here next. need-elsewhere a b (more answer) reads wanted as_kind after here agrees_b next)
    (ask a title kind) refl end

-- ---- one plan behind another

pub run-and_then : {A B : Type 0} (source : Source) (p : Plan A) (next : A → Plan B) (before : List Read) → run source (and_then p next) before ≡ goes_on source next (run source p before)
unfolding run
run-and_then source (gives x) next before = refl
run-and_then source (asks title kind more) next before =
    elim (ask source title kind) as (λ o. met source title kind (λ answer. and_then (more answer) next) before o ≡ goes_on source next (met source title kind more before o)) [
      | None ↦ refl
      | Some answer ↦ run-and_then source (more answer) next _
    ]
