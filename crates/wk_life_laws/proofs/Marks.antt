-- What was read and what the present world answers: by the marks alone, where the texts are those of their revisions.
use Rattle.std.proofs.Common.{◌≡◌, ℕ, Bool, true, false, eqb, not, List, [], ◌∷◌, Option, Some, None, refl, sym, ap, ap₂, ◌∙◌, subst, inl, inr, eq-eqb}
use Rattle.std.specs.Prelude.{All, find, is_some, option_map}
use Rattle.std.specs.List.{AllByRecursion}
use Rattle.std.proofs.lemmas.Bool.{cases_Bool, eqb-true, ne_eqb, not-false}
use Rattle.std.proofs.lemmas.List.Elements.{All-from_recursion, All-nil, recursion_from_All}
use Rattle.wk_text_rules.specs.Titles.{PageTitle}
use Rattle.wk_page_rules.specs.History.{History, Page, current_revision, current_text, page_exists, text_of_revision}
use Rattle.wk_view_rules.specs.Plans.{done}
use Rattle.wk_view_rules.specs.Rows.{rows}
use Rattle.wk_view_rules.specs.Views.{Expanded, reads, view}
use Rattle.wk_view_rules.specs.Worlds.{Agrees, Answer, HasItsText, IsHonest, PageText, Read, Source, World, answer_in, ask, existence, fits_kind, mark, of_world, page, page_of}
use Rattle.wk_view_rules.specs.declared.Kind.{Kind}
use Rattle.wk_view_rules.specs.declared.Kind.TheVariants.{View, Include, Exists}
use Rattle.wk_view_laws.proofs.PlanLemmas.{agrees-itself, done-elsewhere}
use Rattle.wk_view_laws.proofs.SeenLemmas.{seen-world}
use Rattle.wk_view_laws.proofs.ViewLemmas.{rows-elsewhere}
use Rattle.wk_wiki_rules.specs.Jobs.{page_held_by}
use Rattle.wk_wiki_rules.specs.States.{State, current_pages, page_at, stored_at, world_of}
use Rattle.wk_wiki_rules.specs.Events.{Done, step_by}
use Rattle.wk_wiki_laws.specs.WellFormed.{IsWellFormed}
use Rattle.wk_wiki_laws.proofs.Histories.{history-refreshed}
use Rattle.wk_wiki_laws.proofs.Refreshed.{IsCurrent-done}
use Rattle.wk_wiki_laws.proofs.SavedHistory.{Stands, stands-in}
use Rattle.wk_wiki_rules.specs.Staleness.{first_stale, is_stale, stale_read}

-- ---- one answer

-- a revision with a text isn't number 0
no-text : (h : History) (number : ℕ) (text : List ℕ) → text_of_revision h number ≡ Some text → number ≡ 0 → ⊥
no-text h number text there none = let e : None ≡ Some text = rw none at there in cc

module _ (h : History) (title : PageTitle) where
  -- the page's text, by the text of its current revision
  abbrev now : Option (List ℕ) → Option PageText
  now t = option_map (λ text. record { revision = current_revision h title; text = text }) t

  same-page : (o : Option PageText) (t : Option (List ℕ)) → current_text h title ≡ t → HasItsText (text_of_revision h) o → mark (page o) ≡ mark (page (now t)) → now t ≡ o
  same-page None None is has same = refl
  same-page None (Some text) is has same = absurd (no-text h (current_revision h title) text is (sym same))
  same-page (Some p) None is has same = absurd (no-text h p.revision p.text has same)
  same-page (Some p) (Some text) is has same =
      let texts : Some p.text ≡ Some text = sym has ∙ (ap (text_of_revision h) same ∙ is) in
      let one : p.text ≡ text = cc in
      ap₂ (λ r t. let q : PageText = record { revision = r; text = t } in Some q) (sym same) (sym one)

  has-text : (t : Option (List ℕ)) → current_text h title ≡ t → HasItsText (text_of_revision h) (now t)
  has-text None is = tt
  has-text (Some text) is = is

same-existence : (a b : Bool) → mark (existence a) ≡ mark (existence b) → a ≡ b
same-existence true true same = refl
same-existence false false same = refl
same-existence true false same = absurd (let e : 1 ≡ 0 = same in cc)
same-existence false true same = absurd (let e : 0 ≡ 1 = same in cc)

same-answer : (h : History) (title : PageTitle) (kind : Kind) (answer : Answer) → HasItsText (text_of_revision h) (page_of answer) → fits_kind kind answer ≡ true → mark answer ≡ mark (answer_in (current_pages h) title kind)
    → answer_in (current_pages h) title kind ≡ answer
same-answer h title View (page o) has fits same = ap page (same-page h title o (current_text h title) refl has same)
same-answer h title Include (page o) has fits same = ap page (same-page h title o (current_text h title) refl has same)
same-answer h title Exists (existence b) has fits same = ap existence (sym (same-existence b (is_some (current_pages h title)) same))
same-answer h title View (existence b) has fits same = absurd (let e : false ≡ true = fits in cc)
same-answer h title Include (existence b) has fits same = absurd (let e : false ≡ true = fits in cc)
same-answer h title Exists (page o) has fits same = absurd (let e : false ≡ true = fits in cc)

pub answer-honest : (h : History) (title : PageTitle) (kind : Kind) → HasItsText (text_of_revision h) (page_of (answer_in (current_pages h) title kind))
answer-honest h title View = has-text h title (current_text h title) refl
answer-honest h title Include = has-text h title (current_text h title) refl
answer-honest h title Exists = tt

answer-formed : (pages : World) (title : PageTitle) (kind : Kind) → fits_kind kind (answer_in pages title kind) ≡ true
answer-formed pages title View = refl
answer-formed pages title Include = refl
answer-formed pages title Exists = refl

pub answer-current : (pages : World) (title : PageTitle) (kind : Kind) (answer : Answer) → answer_in pages title kind ≡ answer → not (eqb (mark answer) (mark (answer_in pages title kind))) ≡ false
answer-current pages title kind answer is = ap not (eq-eqb (mark answer) (mark (answer_in pages title kind)) (ap mark (sym is)))

-- ---- what was read

module _ {X Y : Type 0} (p : X → Bool) (f : X → Y) where
  none-found : (xs : List X) → option_map f (find p xs) ≡ None → AllByRecursion (λ x. p x ≡ false) xs
  none-found [] none = tt
  none-found (x ∷ xs) none = elim (cases_Bool (p x)) [
    | inl found ↦ absurd (let e : Some (f x) ≡ None = rw found at none in cc)
    | inr other ↦ (other, none-found xs (rw other at none))
  ]

  found-none : (xs : List X) → AllByRecursion (λ x. p x ≡ false) xs → option_map f (find p xs) ≡ None
  found-none [] all = refl
  found-none (x ∷ xs) all = rw all.0 (found-none xs all.1)

abbrev pub Answered : World → Read → Type 0
Answered pages r = ask (of_world pages) r.title r.kind ≡ Some r.answer

pub answered : (pages : World) (r : Read) → Answered pages r → answer_in pages r.title r.kind ≡ r.answer
answered pages r agrees = let e : Some (answer_in pages r.title r.kind) ≡ Some r.answer = agrees in cc

agrees-by : (h : History) (seen : List Read) → AllByRecursion (λ (r : Read). HasItsText (text_of_revision h) (page_of r.answer)) seen → AllByRecursion (λ (r : Read). fits_kind r.kind r.answer ≡ true) seen
    → AllByRecursion (λ (r : Read). is_stale (current_pages h) r ≡ false) seen → AllByRecursion (Answered (current_pages h)) seen
agrees-by h [] honest formed current = tt
agrees-by h (r ∷ seen) honest formed current = (
  ap (λ a. Some a) (same-answer h r.title r.kind r.answer honest.0 formed.0
      (eqb-true (mark r.answer) (mark (answer_in (current_pages h) r.title r.kind)) (not-false _ current.0))),
  agrees-by h seen honest.1 formed.1 current.1,
)

pub agrees-now : (state : State) (seen : List Read) → IsHonest (text_of_revision state.history) seen → All (λ (r : Read). fits_kind r.kind r.answer ≡ true) seen → first_stale (world_of state) seen ≡ None → Agrees (of_world (world_of state)) seen
agrees-now state seen honest formed none =
    All-from_recursion (Answered (world_of state)) seen (agrees-by state.history seen
    (recursion_from_All (λ (r : Read). HasItsText (text_of_revision state.history) (page_of r.answer)) seen honest)
    (recursion_from_All (λ (r : Read). fits_kind r.kind r.answer ≡ true) seen formed)
    (none-found (is_stale (world_of state)) (stale_read (world_of state)) seen none))

current-by : (pages : World) (seen : List Read) → AllByRecursion (Answered pages) seen → AllByRecursion (λ (r : Read). is_stale pages r ≡ false) seen
current-by pages [] agrees = tt
current-by pages (r ∷ seen) agrees = (answer-current pages r.title r.kind r.answer (answered pages r agrees.0), current-by pages seen agrees.1)

pub none-stale : (pages : World) (seen : List Read) → Agrees (of_world pages) seen → first_stale pages seen ≡ None
none-stale pages seen agrees = found-none (is_stale pages) (stale_read pages) seen (current-by pages seen (recursion_from_All (Answered pages) seen agrees))

honest-by : (h : History) (seen : List Read) → AllByRecursion (Answered (current_pages h)) seen → AllByRecursion (λ (r : Read). HasItsText (text_of_revision h) (page_of r.answer)) seen
honest-by h [] agrees = tt
honest-by h (r ∷ seen) agrees = (
  subst (λ a. HasItsText (text_of_revision h) (page_of a)) (answered (current_pages h) r agrees.0) (answer-honest h r.title r.kind),
  honest-by h seen agrees.1,
)

pub honest-now : (state : State) (seen : List Read) → Agrees (of_world (world_of state)) seen → IsHonest (text_of_revision state.history) seen
honest-now state seen agrees =
    All-from_recursion (λ (r : Read). HasItsText (text_of_revision state.history) (page_of r.answer)) seen
    (honest-by state.history seen (recursion_from_All (Answered (world_of state)) seen agrees))

formed-by : (pages : World) (seen : List Read) → AllByRecursion (Answered pages) seen → AllByRecursion (λ (r : Read). fits_kind r.kind r.answer ≡ true) seen
formed-by pages [] agrees = tt
formed-by pages (r ∷ seen) agrees = (
  subst (λ a. fits_kind r.kind a ≡ true) (answered pages r agrees.0) (answer-formed pages r.title r.kind),
  formed-by pages seen agrees.1,
)

pub formed-now : (pages : World) (seen : List Read) → Agrees (of_world pages) seen → All (λ (r : Read). fits_kind r.kind r.answer ≡ true) seen
formed-now pages seen agrees = All-from_recursion (λ (r : Read). fits_kind r.kind r.answer ≡ true) seen (formed-by pages seen (recursion_from_All (Answered pages) seen agrees))

-- ---- drafts

pub drafted-now : (state : State) (a : Source) (title : PageTitle) (x : Expanded) (seen : List Read) → view a title ≡ done x seen → IsHonest (text_of_revision state.history) seen → All (λ (r : Read). fits_kind r.kind r.answer ≡ true) seen
    → first_stale (world_of state) seen ≡ None → view (of_world (world_of state)) title ≡ done x seen
drafted-now state a title x seen end honest formed none = done-elsewhere a (of_world (world_of state)) _ [] x seen (All-nil _) (agrees-now state seen honest formed none) end

pub rows-now : (state : State) (pages : World) (title : PageTitle) → IsHonest (text_of_revision state.history) (reads (of_world pages) title) → first_stale (world_of state) (reads (of_world pages) title) ≡ None → rows (world_of state) title ≡ rows pages title
rows-now state pages title honest none =
    rows-elsewhere pages (world_of state) title (agrees-now state (reads (of_world pages) title) honest (seen-world pages _).formed none)

pub stored-now : (most : ℕ) (state next : State) (journal ticket number : ℕ) (at : Page) (pages : World) → IsWellFormed state → page_held_by state.jobs ticket ≡ Some number → page_at state.history number ≡ Some at
    → IsHonest (text_of_revision state.history) (reads (of_world pages) at.title) → first_stale (world_of state) (reads (of_world pages) at.title) ≡ None
    → step_by most state journal (Done ticket) ≡ Some next → stored_at next number ≡ rows pages at.title
stored-now most state next journal ticket number at pages formed held there honest none finished =
    IsCurrent-done most state next journal ticket number at formed held there finished
    ∙ (ap (λ (h : History). rows (current_pages h) at.title) (history-refreshed most state next journal ticket finished)
    ∙ rows-now state pages at.title honest none)

pub drafted-honest : (state : State) (title : PageTitle) → IsHonest (text_of_revision state.history) (reads (of_world (world_of state)) title)
drafted-honest state title = honest-now state (reads (of_world (world_of state)) title) (agrees-itself (of_world (world_of state)) _ [] (All-nil _))

-- ---- pages that exist

exists-by : (h : History) (title : PageTitle) → Stands h (current_revision h title) → page_exists h title ≡ is_some (current_pages h title)
exists-by h title (inl none) = rw none refl
exists-by h title (inr there) = by (current_text h title) refl
  where
    by : (t : Option (List ℕ)) → current_text h title ≡ t → not (eqb (current_revision h title) 0) ≡ is_some (now h title t)
    by None is = absurd (let e : false ≡ true = sym (ap (λ (o : Option (List ℕ)). is_some o) is) ∙ there in cc)
    by (Some text) is = ap not (ne_eqb (current_revision h title) 0 (no-text h (current_revision h title) text is))

pub exists-now : (state : State) (title : PageTitle) → IsWellFormed state → page_exists state.history title ≡ is_some (world_of state title)
exists-now state title formed =
    exists-by state.history title (stands-in state.history title state.history.pages
    (recursion_from_All (λ (p : Page). Stands state.history p.current) state.history.pages formed.texts))
