-- Answers of points of a journal.
use Rattle.std.proofs.Common.{◌≡◌, ℕ, zero, suc, ◌≤◌, true, false, eqb, not, List, [], ◌∷◌, ◌++◌, length, take, Some, None, inl, inr, refl, sym, ap, ap₂, ◌∙◌, subst, arith, length-append, eq-eqb}
use Rattle.std.specs.Prelude.{All, find, option_map}
use Rattle.std.specs.List.{AllByRecursion}
use Rattle.std.proofs.lemmas.Bool.{cases_Bool}
use Rattle.std.proofs.lemmas.List.Elements.{All-from_recursion, All-nil, All-push, All-weaker, recursion_from_All}
use mathlib.Core.List.{IsPrefix}
use Rattle.wk_text_rules.specs.Titles.{PageTitle, title_eq}
use Rattle.wk_page_rules.specs.History.{text_of_revision}
use Rattle.wk_view_rules.specs.Worlds.{Agrees, HasItsText, IsHonest, Read, World, answer_in, ask, fits_kind, is_read_of, kind_eq, mark, of_seen, page_of}
use Rattle.wk_view_rules.specs.declared.Kind.{Kind}
use Rattle.wk_view_rules.specs.declared.Kind.TheVariants.{View, Include, Exists}
use Rattle.wk_view_laws.proofs.PlanLemmas.{both_parts, kind_eq-true, title_eq-true}
use Rattle.wk_wiki_rules.specs.States.{State, world_of}
use Rattle.wk_wiki_rules.specs.Events.{Event}
use Rattle.wk_wiki_rules.specs.Lives.{replay, state_at}
use Rattle.wk_wiki_rules.specs.Staleness.{StaleRead, first_stale, is_stale, stale_read}
use Rattle.wk_wiki_rules.specs.Starts.{Start}
use Rattle.wk_life_laws.proofs.Marks.{answer-honest}
use Rattle.wk_life_laws.specs.Runs.{IsRun}
use Rattle.wk_life_laws.proofs.RunFacts.{run_honest}
use Rattle.wk_read_laws.specs.Points.{AreReadSince, IsReadSince, IsStaleSince}

-- the beginning of a list is that of a longer one
take-within : {X : Type 0} (n : ℕ) (xs ys : List X) → n ≤ length xs → take n (xs ++ ys) ≡ take n xs
take-within zero xs ys h = refl
take-within (suc n) [] ys h = absurd (omega arith)
take-within (suc n) (x ∷ xs) ys h = ap (λ l. x ∷ l) (take-within n xs ys (omega arith))

-- the state at a point is the same behind a longer journal
pub state-longer : (start : State) (journal longer : List Event) (point : ℕ) (state : State) → IsPrefix journal longer → point ≤ length journal → state_at start journal point ≡ Some state → state_at start longer point ≡ Some state
state-longer start journal longer point state begins within at =
    let here : take point longer ≡ take point journal = ap (take point) (sym begins.1) ∙ take-within point journal begins.0 within in
    ap (replay start) here ∙ at

pub prefix-short : (journal longer : List Event) → IsPrefix journal longer → length journal ≤ length longer
prefix-short journal longer begins = let e = length-append journal begins.0 in let f = ap length begins.1 in omega (arith, e, f)

pub read-later : (start : Start) (journal longer : List Event) (from : ℕ) (read : Read) → IsPrefix journal longer → IsReadSince start journal from read → IsReadSince start longer from read
read-later start journal longer from read begins is = record {
  point = is.point;
  since = is.since;
  within = (let short = prefix-short journal longer begins in let w = is.within in omega (arith, short, w));
  state = is.state;
  stands = state-longer start.state journal longer is.point is.state begins is.within is.stands;
  answered = is.answered;
}

pub reads-later : (start : Start) (journal longer : List Event) (from : ℕ) (reads : List Read) → IsPrefix journal longer → AreReadSince start journal from reads → AreReadSince start longer from reads
reads-later start journal longer from reads begins are =
    All-weaker (IsReadSince start journal from) (IsReadSince start longer from) (λ read is. read-later start journal longer from read begins is) reads are

pub reads-none : (start : Start) (journal : List Event) (from : ℕ) → AreReadSince start journal from []
reads-none start journal from = All-nil (IsReadSince start journal from)

pub reads-more : (start : Start) (journal : List Event) (from : ℕ) (reads : List Read) (read : Read) → AreReadSince start journal from reads → IsReadSince start journal from read → AreReadSince start journal from (reads ++ read ∷ [])
reads-more start journal from reads read are is = All-push (IsReadSince start journal from) reads read are is

-- ---- those that something answers in the same way

module _ (P : Read → Type 0) (read : Read) (alike : (r : Read) → P r → r.title ≡ read.title → r.kind ≡ read.kind → r.answer ≡ read.answer → P read) where
  found-by : (seen : List Read) → AllByRecursion P seen → ask (of_seen seen) read.title read.kind ≡ Some read.answer → P read
  found-by [] all is = absurd (let e : None ≡ Some read.answer = is in cc)
  found-by (r ∷ seen) all is = elim (cases_Bool (is_read_of read.title read.kind r)) [
    | inl there ↦
        let parts = both_parts (title_eq r.title read.title) (kind_eq r.kind read.kind) there in
        let first : Some r.answer ≡ Some read.answer = rw there at is in
        let same : r.answer ≡ read.answer = cc in
        alike r all.0 (title_eq-true r.title read.title parts.0) (kind_eq-true r.kind read.kind parts.1) same
    | inr other ↦ found-by seen all.1 (rw other at is)
  ]

read-alike : (start : Start) (journal : List Event) (from : ℕ) (read r : Read) → IsReadSince start journal from r → r.title ≡ read.title → r.kind ≡ read.kind → r.answer ≡ read.answer → IsReadSince start journal from read
read-alike start journal from read r is title kind answer = record {
  point = is.point;
  since = is.since;
  within = is.within;
  state = is.state;
  stands = is.stands;
  answered = ap₂ (answer_in (world_of is.state)) (sym title) (sym kind) ∙ is.answered ∙ answer;
}

pub reads-among : (start : Start) (journal : List Event) (from : ℕ) (seen reads : List Read) → AreReadSince start journal from seen → Agrees (of_seen seen) reads → AreReadSince start journal from reads
reads-among start journal from seen reads are agrees =
    All-weaker (λ (r : Read). ask (of_seen seen) r.title r.kind ≡ Some r.answer) (IsReadSince start journal from)
    (λ read is. found-by (IsReadSince start journal from) read (read-alike start journal from read) seen (recursion_from_All (IsReadSince start journal from) seen are) is) reads agrees

-- ---- honest, and of their kinds' forms

read-honest : (start : Start) (journal : List Event) (state : State) (from : ℕ) (read : Read) → IsRun start journal state → IsReadSince start journal from read → HasItsText (text_of_revision state.history) (page_of read.answer)
read-honest start journal state from read run is =
    let one : IsHonest (text_of_revision is.state.history) (read ∷ []) =
    All-from_recursion (λ (r : Read). HasItsText (text_of_revision is.state.history) (page_of r.answer)) (read ∷ [])
    (subst (λ a. HasItsText (text_of_revision is.state.history) (page_of a)) is.answered (answer-honest is.state.history read.title read.kind), tt) in
    let later = run_honest start journal state run is.state is.point (read ∷ []) is.stands one in
    (recursion_from_All (λ (r : Read). HasItsText (text_of_revision state.history) (page_of r.answer)) (read ∷ []) later).0

pub reads-honest : (start : Start) (journal : List Event) (state : State) (from : ℕ) (reads : List Read) → IsRun start journal state → AreReadSince start journal from reads → IsHonest (text_of_revision state.history) reads
reads-honest start journal state from reads run are =
    All-weaker (IsReadSince start journal from) (λ (r : Read). HasItsText (text_of_revision state.history) (page_of r.answer)) (λ read is. read-honest start journal state from read run is) reads are

form : (pages : World) (title : PageTitle) (kind : Kind) → fits_kind kind (answer_in pages title kind) ≡ true
form pages title View = refl
form pages title Include = refl
form pages title Exists = refl

pub reads-formed : (start : Start) (journal : List Event) (from : ℕ) (reads : List Read) → AreReadSince start journal from reads → All (λ (r : Read). fits_kind r.kind r.answer ≡ true) reads
reads-formed start journal from reads are =
    All-weaker (IsReadSince start journal from) (λ (r : Read). fits_kind r.kind r.answer ≡ true)
    (λ read is. subst (λ a. fits_kind read.kind a ≡ true) is.answered (form (world_of is.state) read.title read.kind)) reads are

-- ---- the first that isn't current

module _ (start : Start) (journal : List Event) (from : ℕ) (pages : World) (stale : StaleRead) where
  stale-one : (read : Read) → IsReadSince start journal from read → is_stale pages read ≡ true → stale_read pages read ≡ stale → IsStaleSince start journal from pages stale
  stale-one read is other same = subst (IsStaleSince start journal from pages) same (record {
    point = is.point;
    since = is.since;
    within = is.within;
    state = is.state;
    stands = is.stands;
    was = ap mark (sym is.answered);
    is = refl;
    differs = λ equal. absurd (let e : not (eqb (mark read.answer) (mark (answer_in pages read.title read.kind))) ≡ false = ap not (eq-eqb (mark read.answer) (mark (answer_in pages read.title read.kind)) equal) in let f : true ≡ false = sym other ∙ e in cc);
  })

  stale-by : (reads : List Read) → AllByRecursion (IsReadSince start journal from) reads → option_map (stale_read pages) (find (is_stale pages) reads) ≡ Some stale → IsStaleSince start journal from pages stale
  stale-by [] all is = absurd (let e : None ≡ Some stale = is in cc)
  stale-by (r ∷ reads) all is = elim (cases_Bool (is_stale pages r)) [
    | inl other ↦
        let first : Some (stale_read pages r) ≡ Some stale = rw other at is in
        let same : stale_read pages r ≡ stale = cc in
        stale-one r all.0 other same
    | inr current ↦ stale-by reads all.1 (rw current at is)
  ]

  pub reads-stale : (reads : List Read) → AreReadSince start journal from reads → first_stale pages reads ≡ Some stale → IsStaleSince start journal from pages stale
  reads-stale reads are is = stale-by reads (recursion_from_All (IsReadSince start journal from) reads are) is
