-- The reads of an expansion are answers that were seen: each pair once, each answer in its kind's form.
use Rattle.std.proofs.Common.{◌≡◌, ◌<◌, ◌≤◌, ◌+◌, Bool, true, false, List, [], ◌∷◌, ◌++◌, length, refl, sym, ◌∙◌, subst, Option, Some, None, arith, inl, inr, get_or, length-append}
use Rattle.std.specs.Bool.{IsTrue, nat_lt, one_answer}
use borrow.Author.Tests.{ltb-true, ltb-false}
use Rattle.std.specs.List.{All, AllPairs, list_any, find}
use Rattle.std.specs.Option.{option_map}
use Rattle.std.proofs.Math.ListN.{get_or-append}
use Rattle.std.proofs.Math.Seq.{get_or-append_seam}
use Rattle.std.proofs.lemmas.Bool.{cases_Bool}
use Rattle.std.proofs.lemmas.List.Elements.{All-head, All-nil, All-push, All-tail}
use Rattle.std.proofs.lemmas.List.Folds.{list_any_at}
use Rattle.wk_text_rules.specs.Titles.{PageTitle, title_eq}
use Rattle.wk_view_rules.specs.Plans.{Plan, gives, asks, noted, run, reads_of}
use Rattle.wk_view_rules.specs.Worlds.{Answer, Read, Source, Seen, World, of_world, of_seen, ask, answer_in, fits_kind, is_read_of, kind_eq, IsSeen}
use Rattle.wk_view_rules.specs.declared.Kind.{Kind}
use Rattle.wk_view_rules.specs.declared.Kind.TheVariants.{View, Include, Exists}
use Rattle.wk_view_laws.proofs.PlanLemmas.{both_parts, kind_eq-true, kind_eq-same, met}
use Rattle.wk_view_laws.proofs.RowLemmas.{title_eq_comm}

-- ---- lists

each-fails : {X : Type 0} (p : X → Bool) (xs : List X) → list_any p xs ≡ false → All (λ x. p x ≡ false) xs
each-fails p xs none k d within = elim (cases_Bool (p (get_or xs k d))) [
  | inl passes ↦ absurd (let wrong : true ≡ false = sym (list_any_at p xs k d within passes) ∙ none in cc)
  | inr fails ↦ fails
]

AllPairs-push : {X : Type 0} (R : X → X → Type 0) (xs : List X) (x : X) → AllPairs R xs → All (λ a. R a x) xs → AllPairs R (xs ++ x ∷ [])
AllPairs-push R xs x pairs all i j d before within =
    let in_all : j < length xs + 1 = rw length-append at within in
    let i_within : i < length xs = omega arith in
    let i_is : get_or (xs ++ x ∷ []) i d ≡ get_or xs i d = get_or-append xs (x ∷ []) d i i_within in
    elim (cases_Bool (nat_lt j (length xs))) [
      | inl below ↦
          let j_within : j < length xs = ltb-true j (length xs) below in
          rw (i_is, get_or-append xs (x ∷ []) d j j_within) (pairs i j d before j_within)
      | inr above ↦
          let at_least : length xs ≤ j = ltb-false j (length xs) above in
          let last : length xs ≡ j = omega arith in
          let j_is : get_or (xs ++ x ∷ []) j d ≡ x = subst (λ n. get_or (xs ++ x ∷ []) n d ≡ x) last (get_or-append_seam xs x [] d) in
          rw (i_is, j_is) (all i d i_within)
    ]

-- ---- distinct pairs

kind_eq_comm : (a b : Kind) → kind_eq a b ≡ kind_eq b a
kind_eq_comm a b = one_answer {P = a ≡ b} (kind_eq a b) (kind_eq b a)
    (kind_eq-true a b, λ e. subst (λ k. kind_eq a k ≡ true) e (kind_eq-same a))
    (λ e. sym (kind_eq-true b a e), λ e. subst (λ k. kind_eq k a ≡ true) e (kind_eq-same a))

is_read_of_comm : (a b : Read) → is_read_of a.title a.kind b ≡ is_read_of b.title b.kind a
is_read_of_comm a b = rw (title_eq_comm b.title a.title, kind_eq_comm b.kind a.kind) refl

-- no later read is of the pair of an earlier one
abbrev IsOther : Read → Read → Type 0
IsOther a b = is_read_of a.title a.kind b ≡ false

distinct-noted : (before : List Read) (r : Read) → AllPairs IsOther before → AllPairs IsOther (noted before r)
distinct-noted before r distinct = elim (cases_Bool (list_any (is_read_of r.title r.kind) before)) [
  | inl there ↦ rw there distinct
  | inr missing ↦ rw missing (AllPairs-push IsOther before r distinct
      (λ k d within. is_read_of_comm (get_or before k d) r ∙ each-fails (is_read_of r.title r.kind) before missing k d within))
]

-- ---- forms

-- the source answers in the kind's form
abbrev AnswersInForm : Source → Type 0
AnswersInForm source = (title : PageTitle) (kind : Kind) (answer : Answer) → ask source title kind ≡ Some answer → fits_kind kind answer ≡ true

abbrev HasForm : Read → Type 0
HasForm r = IsTrue (fits_kind r.kind r.answer)

formed-noted : (before : List Read) (r : Read) → HasForm r → All HasForm before → All HasForm (noted before r)
formed-noted before r form all = elim (cases_Bool (list_any (is_read_of r.title r.kind) before)) [
  | inl there ↦ rw there all
  | inr missing ↦ rw missing (All-push HasForm before r all form)
]

fits-world : (pages : World) (title : PageTitle) (kind : Kind) → fits_kind kind (answer_in pages title kind) ≡ true
fits-world pages title View = refl
fits-world pages title Include = refl
fits-world pages title Exists = refl

form-world : (pages : World) → AnswersInForm (of_world pages)
form-world pages title kind answer e =
    let same : answer_in pages title kind ≡ answer = cc in
    subst (λ a. fits_kind kind a ≡ true) same (fits-world pages title kind)

fits-found : (title : PageTitle) (kind : Kind) (answer : Answer) (reads : List Read) → All HasForm reads → option_map (λ (r : Read). r.answer) (find (is_read_of title kind) reads) ≡ Some answer → fits_kind kind answer ≡ true
fits-found title kind answer [] all e = cc
fits-found title kind answer (r ∷ reads) all e = elim (cases_Bool (is_read_of title kind r)) [
  | inl there ↦
      let found : Some r.answer ≡ Some answer = rw there at e in
      let same : r.answer ≡ answer = cc in
      let of_kind : r.kind ≡ kind = kind_eq-true r.kind kind (both_parts (title_eq r.title title) (kind_eq r.kind kind) there).1 in
      subst (λ k. fits_kind k answer ≡ true) of_kind (subst (λ a. fits_kind r.kind a ≡ true) same (All-head HasForm r reads all))
  | inr missing ↦ fits-found title kind answer reads (All-tail HasForm r reads all) (rw missing at e)
]

form-seen : (reads : Seen) → IsSeen reads → AnswersInForm (of_seen reads)
form-seen reads is_seen title kind answer e = fits-found title kind answer reads is_seen.formed e

-- ---- the reads of a plan

seen-run : {A : Type 0} (source : Source) → AnswersInForm source → (p : Plan A) (before : List Read) → IsSeen before → IsSeen (reads_of (run source p before))
unfolding run
seen-run source form (gives x) before h = h
seen-run source form (asks title kind more) before h = go (ask source title kind) refl (λ answer. seen-run source form (more answer))
  where
    go : (o : Option Answer) → ask source title kind ≡ o → ((answer : Answer) (reads : List Read) → IsSeen reads → IsSeen (reads_of (run source (more answer) reads))) → IsSeen (reads_of (met source title kind more before o))
    go None e later = h
    go (Some answer) e later =
        let r : Read = record { title = title; kind = kind; answer = answer } in
        later answer (noted before r) (record { distinct = distinct-noted before r h.distinct; formed = formed-noted before r (form title kind answer e) h.formed })

nothing_seen : IsSeen []
nothing_seen = record { distinct = λ i j d before within. absurd (omega arith); formed = All-nil HasForm }

pub seen-world : {A : Type 0} (pages : World) (p : Plan A) → IsSeen (reads_of (run (of_world pages) p []))
seen-world pages p = seen-run (of_world pages) (form-world pages) p [] nothing_seen

pub seen-seen : {A : Type 0} (reads : Seen) → IsSeen reads → (p : Plan A) → IsSeen (reads_of (run (of_seen reads) p []))
seen-seen reads is_seen p = seen-run (of_seen reads) (form-seen reads is_seen) p [] nothing_seen
