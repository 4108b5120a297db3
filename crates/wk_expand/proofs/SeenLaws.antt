-- Answers by what they answer.
use Rattle.std.proofs.Common.{◌≡◌, ◌<◌, ◌≤◌, ◌+◌, Bool, true, false, List, [], ◌∷◌, ◌++◌, length, refl, sym, ◌∙◌, ap, subst, Option, Some, None, arith, inl, inr, get_or, length-append}
use Rattle.std.specs.Bool.{IsTrue, nat_lt, one_answer}
use Rattle.std.specs.List.{All, AllPairs}
use Rattle.std.specs.Map.{lookup}
use Rattle.std.specs.Option.{option_map, IfSome}
use Rattle.std.proofs.Math.ListN.{get_or-append}
use Rattle.std.proofs.Math.Seq.{get_or-append_seam}
use Rattle.std.proofs.lemmas.Bool.{cases_Bool}
use Rattle.std.proofs.lemmas.List.Elements.{All-cons, All-push, All-head, All-tail, All-nil}
use Rattle.wk_view_rules.specs.Worlds.{Answer as RuleAnswer, Read, Seen, IsSeen, ask, of_seen, fits_kind, is_read_of, kind_eq}
use Rattle.wk_view_rules.specs.declared.Kind.{Kind}
use Rattle.wk_text_rules.specs.Titles.{PageTitle, title_eq}
use Rattle.wk_view_rules.specs.Plans.{noted}
use Rattle.wk_view_laws.proofs.PlanLemmas.{both_parts, kind_eq-true, kind_eq-same}
use Rattle.wk_view_laws.proofs.RowLemmas.{title_eq_comm}
use Rattle.std.specs.Prelude.{Result, Ok, Err, OnOk, OnErr, IsSome}
use Rattle.wk_expand.proofs.ReadLaws.{noted-there, noted-absent}
use Rattle.wk_expand.specs.Answers.{answer_of, read_with}
use Rattle.wk_expand.specs.Entries.{entry_read, entry_reads}
use Rattle.wk_expand.specs.declared.answer.Answer.{Answer}
use Rattle.wk_expand.specs.declared.seen.Asked.{Asked}
use Rattle.std.specs.Ordering.{int_eq}
use Rattle.std.specs.Prelude.{◌&&◌, eqb}
use lib.Pointwise.{pointwise}
use denote.Enum.Bare.{sameb}
use Rattle.wk_view_rules.specs.contracts.Kind.{the_type}
use Rattle.wk_view_rules.specs.declared.Kind.TheVariants.{View, Include, Exists}
use Rattle.std.proofs.lemmas.List.{map-append}
use Rattle.indexmap.specs.IndexMap.{IndexMap, get, insert_entry}
use Rattle.indexmap.proofs.CallerLemmas.{insert_entry-new}
use borrow.Author.Tests.{ltb-true, ltb-false}

-- ---- look-ups

kind_eq_comm : (a b : Kind) → kind_eq a b ≡ kind_eq b a
kind_eq_comm a b = one_answer {P = a ≡ b} (kind_eq a b) (kind_eq b a)
    (kind_eq-true a b, λ e. subst (λ k. kind_eq a k ≡ true) e (kind_eq-same a))
    (λ e. sym (kind_eq-true b a e), λ e. subst (λ k. kind_eq k a ≡ true) e (kind_eq-same a))

-- the first entry that passes a test of its pair is the first read that does
pub find-entries : (entries : List (Asked × Answer)) (test : Asked → Bool) (title : PageTitle) (kind : Kind) → ((e : Asked × Answer) → is_read_of title kind (entry_read e) ≡ test e.0) → ask (of_seen (entry_reads entries)) title kind ≡ option_map answer_of (lookup test entries)
find-entries [] test title kind same = refl
find-entries (e ∷ entries) test title kind same = elim (cases_Bool (test e.0)) [
  | inl there ↦ let here : is_read_of title kind (entry_read e) ≡ true = same e ∙ there in rw (here, there) refl
  | inr missing ↦ let not_here : is_read_of title kind (entry_read e) ≡ false = same e ∙ missing in rw (not_here, missing) (find-entries entries test title kind same)
]

kind_eq-sameb : (a b : Kind) → kind_eq a b ≡ sameb the_type a b
kind_eq-sameb View View = refl
kind_eq-sameb View Include = refl
kind_eq-sameb View Exists = refl
kind_eq-sameb Include View = refl
kind_eq-sameb Include Include = refl
kind_eq-sameb Include Exists = refl
kind_eq-sameb Exists View = refl
kind_eq-sameb Exists Include = refl
kind_eq-sameb Exists Exists = refl

-- the derived test
abbrev pub asked_eq : Asked → Asked → Bool
asked_eq a b = (int_eq a.title.ns b.title.ns && pointwise eqb a.title.key b.title.key) && sameb the_type a.kind b.kind

-- a read is of the pair that an entry is of, by the derived test
pub asked-same : (title : PageTitle) (kind : Kind) (e : Asked × Answer) → is_read_of title kind (entry_read e) ≡ ((int_eq title.ns e.0.title.ns && pointwise eqb title.key e.0.title.key) && sameb the_type kind e.0.kind)
asked-same title kind e = rw (title_eq_comm e.0.title title, kind_eq_comm e.0.kind kind, kind_eq-sameb kind e.0.kind) refl

none_behind : {X Y : Type 0} (f : X → Y) (o : Option X) → option_map f o ≡ None → o ≡ None
none_behind f None e = refl
none_behind f (Some x) e = cc

pub reads-insert : {S : Type 0} (eq : Asked → Asked → Bool) (m : IndexMap Asked Answer S) (k : Asked) (v : Answer) → ((e : Asked × Answer) → is_read_of k.title k.kind (entry_read e) ≡ eq k e.0) → ask (of_seen (entry_reads m.entries)) k.title k.kind ≡ None → entry_reads (insert_entry eq m.entries k v) ≡ entry_reads m.entries ++ entry_read (k, v) ∷ []
reads-insert eq m k v same none =
    let absent : lookup (eq k) m.entries ≡ None = none_behind answer_of (lookup (eq k) m.entries) (sym (find-entries m.entries (eq k) k.title k.kind same) ∙ none) in
    ap entry_reads (insert_entry-new eq m k v absent) ∙ map-append entry_read m.entries ((k, v) ∷ [])

-- ---- one more answer

abbrev HasForm : Read → Type 0
HasForm r = IsTrue (fits_kind r.kind r.answer)

-- a pair that isn't answered is none of those that are
unanswered : (reads : List Read) (title : PageTitle) (kind : Kind) → ask (of_seen reads) title kind ≡ None → All (λ (r : Read). is_read_of title kind r ≡ false) reads
unanswered [] title kind none = All-nil (λ (r : Read). is_read_of title kind r ≡ false)
unanswered (r ∷ reads) title kind none = elim (cases_Bool (is_read_of title kind r)) [
  | inl there ↦ absurd (let wrong : Some r.answer ≡ None = rw there at none in cc)
  | inr missing ↦ All-cons (λ (r : Read). is_read_of title kind r ≡ false) r reads missing (unanswered reads title kind (rw missing at none))
]

AllPairs-push : {X : Type 0} (R : X → X → Type 0) (xs : List X) (x : X) → AllPairs R xs → All (λ a. R a x) xs → AllPairs R (xs ++ x ∷ [])
AllPairs-push R xs x pairs all i j d before within =
    let in_all : j < length xs + 1 = rw length-append at within in
    let i_within : i < length xs = omega arith in
    let i_is : get_or (xs ++ x ∷ []) i d ≡ get_or xs i d = get_or-append xs (x ∷ []) d i i_within in
    elim (cases_Bool (nat_lt j (length xs))) [
      | inl below ↦
          let j_within : j < length xs = ltb-true j (length xs) below in
          rw (i_is, get_or-append xs (x ∷ []) d j j_within) (pairs i j d before j_within)
      | inr above ↦
          let at_least : length xs ≤ j = ltb-false j (length xs) above in
          let last : length xs ≡ j = omega arith in
          let j_is : get_or (xs ++ x ∷ []) j d ≡ x = subst (λ n. get_or (xs ++ x ∷ []) n d ≡ x) last (get_or-append_seam xs x [] d) in
          rw (i_is, j_is) (all i d i_within)
    ]

is_read_of_comm : (a b : Read) → is_read_of a.title a.kind b ≡ is_read_of b.title b.kind a
is_read_of_comm a b = rw (title_eq_comm b.title a.title, kind_eq_comm b.kind a.kind) refl

pub IsSeen-push : (reads : Seen) (r : Read) → IsSeen reads → ask (of_seen reads) r.title r.kind ≡ None → HasForm r → IsSeen (reads ++ r ∷ [])
IsSeen-push reads r is_seen none form = record {
  distinct = AllPairs-push (λ (a b : Read). is_read_of a.title a.kind b ≡ false) reads r is_seen.distinct
      (λ k d within. is_read_of_comm (get_or reads k d) r ∙ unanswered reads r.title r.kind none k d within);
  formed = All-push HasForm reads r is_seen.formed form;
}

pub nothing_seen : IsSeen []
nothing_seen = record { distinct = λ i j d before within. absurd (omega arith); formed = All-nil HasForm }

-- an answer that is found has its kind's form
pub fits-found : (reads : Seen) (title : PageTitle) (kind : Kind) (answer : RuleAnswer) → All HasForm reads → ask (of_seen reads) title kind ≡ Some answer → IsTrue (fits_kind kind answer)
fits-found [] title kind answer all e = cc
fits-found (r ∷ reads) title kind answer all e = elim (cases_Bool (is_read_of title kind r)) [
  | inl there ↦
      let found : Some r.answer ≡ Some answer = rw there at e in
      let same : r.answer ≡ answer = cc in
      let of_kind : r.kind ≡ kind = kind_eq-true r.kind kind (both_parts (title_eq r.title title) (kind_eq r.kind kind) there).1 in
      subst (λ k. IsTrue (fits_kind k answer)) of_kind (subst (λ a. IsTrue (fits_kind r.kind a)) same (All-head HasForm r reads all))
  | inr missing ↦ fits-found reads title kind answer (All-tail HasForm r reads all) (rw missing at e)
]

-- and so does the answer of an entry
pub fits-entry : (reads : Seen) (title : PageTitle) (kind : Kind) (o : Option Answer) → All HasForm reads → option_map answer_of o ≡ ask (of_seen reads) title kind → IfSome o (λ a. IsTrue (fits_kind kind (answer_of a)))
fits-entry reads title kind None all e = tt
fits-entry reads title kind (Some a) all e = fits-found reads title kind (answer_of a) all (sym e)

-- ---- an answer is noted

pub IsSeen-noted : (reads : Seen) (title : PageTitle) (kind : Kind) (answer : RuleAnswer) → IsSeen reads → IsTrue (fits_kind kind answer) → IsSeen (noted reads (read_with title kind answer))
IsSeen-noted reads title kind answer is_seen form = by (ask (of_seen reads) title kind) refl
  where
    by : (o : Option RuleAnswer) → ask (of_seen reads) title kind ≡ o → IsSeen (noted reads (read_with title kind answer))
    by None e = subst (λ rs. IsSeen rs) (noted-absent reads title kind answer e) (IsSeen-push reads (read_with title kind answer) is_seen e form)
    by (Some other) e = subst (λ rs. IsSeen rs) (noted-there reads title kind answer other e) is_seen

-- what is kept is seen, or nothing is
pub IsSeen-kept : {A E : Type 0} (r : Result A E) (before after : List (Asked × Answer)) (e : Asked × Answer) → OnOk r (entry_reads after ≡ noted (entry_reads before) (entry_read e)) → OnErr r (after ≡ before) → IsSeen (entry_reads before) → IsTrue (fits_kind e.0.kind (answer_of e.1)) → IsSeen (entry_reads after)
IsSeen-kept (Ok u) before after e ok err is_seen form = subst (λ rs. IsSeen rs) (sym ok) (IsSeen-noted (entry_reads before) e.0.title e.0.kind (answer_of e.1) is_seen form)
IsSeen-kept (Err x) before after e ok err is_seen form = subst (λ es. IsSeen (entry_reads es)) (sym err) is_seen

-- a key that is there
pub reads-there : {S R : Type 0} (eq : Asked → Asked → Bool) (m : IndexMap Asked Answer S) (k : Asked) (v : Answer) (es : List (Asked × Answer)) → ((e : Asked × Answer) → is_read_of k.title k.kind (entry_read e) ≡ eq k e.0) → IsSome (get eq m k) × R → es ≡ m.entries → entry_reads es ≡ noted (entry_reads m.entries) (entry_read (k, v))
reads-there {S} {R} eq m k v es same there stays = ap entry_reads stays ∙ by (get eq m k) refl there.0
  where
    by : (o : Option Answer) → get eq m k ≡ o → IsSome o → entry_reads m.entries ≡ noted (entry_reads m.entries) (entry_read (k, v))
    by None e some = absurd (cc)
    by (Some a) e some = noted-there (entry_reads m.entries) k.title k.kind (answer_of v) (answer_of a) (find-entries m.entries (eq k) k.title k.kind same ∙ ap (option_map answer_of) e)

-- and one that isn't, whose entry goes last
pub reads-new : {S : Type 0} (eq : Asked → Asked → Bool) (m : IndexMap Asked Answer S) (k : Asked) (v w : Answer) (es inserted : List (Asked × Answer)) → ((e : Asked × Answer) → is_read_of k.title k.kind (entry_read e) ≡ eq k e.0) → get eq m k ≡ None → answer_of w ≡ answer_of v → inserted ≡ insert_entry eq m.entries k w → es ≡ inserted → entry_reads es ≡ noted (entry_reads m.entries) (entry_read (k, v))
reads-new eq m k v w es inserted same none shared goes_in is =
    let unasked : ask (of_seen (entry_reads m.entries)) k.title k.kind ≡ None = find-entries m.entries (eq k) k.title k.kind same ∙ ap (option_map answer_of) none in
    ap entry_reads (is ∙ goes_in)
    ∙ reads-insert eq m k w same unasked
    ∙ ap (λ a. entry_reads m.entries ++ read_with k.title k.kind a ∷ []) shared
    ∙ noted-absent (entry_reads m.entries) k.title k.kind (answer_of v) unasked
