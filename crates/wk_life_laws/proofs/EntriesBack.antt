-- Events that are read back from the entries that stand for them.
use Rattle.std.proofs.Common.{◌≡◌, ℕ, zero, suc, ◌+◌, ◌-◌, ◌≤◌, ◌<◌, true, false, cond, eqb, List, [], ◌∷◌, ◌++◌, length, Option, Some, None, refl, sym, ap, ap₂, ◌∙◌, inl, inr, subst, arith}
use Rattle.std.specs.Prelude.{All, IsSome, is_some, option_map, slice_get, unwrap_or}
use Rattle.std.specs.List.{AllByRecursion, cons_option}
use Rattle.std.proofs.lemmas.Bool.{cases_Bool, ne_eqb}
use Rattle.std.proofs.Math.Numerals.{one-add}
use Rattle.std.proofs.lemmas.List.{length-append}
use Rattle.std.proofs.lemmas.List.Elements.{All-append, All-from_recursion, All-weaker, filter_map-append, recursion_from_All}
use Rattle.std.proofs.lemmas.Option.{option_and_then_some}
use Rattle.wk_text_rules.specs.Titles.{PageTitle, title_eq}
use Rattle.wk_page_rules.specs.History.{History, Page, Revision, current_revision, next_revision, page_to_save, saved, with_current}
use Rattle.wk_view_laws.proofs.PlanLemmas.{title_eq-true}
use Rattle.wk_wiki_rules.specs.States.{State, title_at}
use Rattle.wk_wiki_rules.specs.Events.{Event, Save, Claim, Done, Back, Fan, step_by}
use Rattle.wk_wiki_rules.specs.Lives.{replay_from}
use Rattle.wk_wiki_laws.proofs.Formed.{no-fewer, own-within}
use Rattle.wk_wiki_laws.proofs.SavedHistory.{last-at}
use Rattle.wk_wiki_laws.proofs.Histories.{history-saved, history-claimed, history-refreshed, history-given_back, history-fanned}
use Rattle.wk_wiki_rules.specs.Entries.{IsTold, entries_from, event_of_entry, events_of, revision_at, save_of_revision}
use Rattle.wk_wiki_rules.specs.declared.Entry.{Entry}
use Rattle.wk_wiki_rules.specs.declared.Entry.TheVariants as entry
use Rattle.wk_life_laws.specs.Standing.{EntryStands, RevisionStands}
use Rattle.wk_life_laws.proofs.Told.{page_to_save-is, place_of}

-- ---- titles of pages

abbrev titled : PageTitle → Option Page → PageTitle
titled missing o = unwrap_or (option_map (λ (page : Page). page.title) o) missing

titles-kept : (missing title : PageTitle) (number : ℕ) (pages : List Page) (place : ℕ) → place < length pages → titled missing (slice_get (with_current pages title number) place) ≡ titled missing (slice_get pages place)
titles-kept missing title number [] place within = absurd (omega (arith, within))
titles-kept missing title number (page ∷ pages) zero within = elim (cases_Bool (title_eq page.title title)) [ inl same ↦ rw same refl | inr differs ↦ rw differs refl ]
titles-kept missing title number (page ∷ pages) (suc place) within = elim (cases_Bool (title_eq page.title title)) [
  | inl same ↦ rw same refl
  | inr differs ↦ rw differs (titles-kept missing title number pages place (omega (arith, within)))
]

title-own : (missing title : PageTitle) (number : ℕ) (pages : List Page) → titled missing (slice_get (with_current pages title number) (place_of title pages)) ≡ title
title-own missing title number [] = refl
title-own missing title number (page ∷ pages) = elim (cases_Bool (title_eq page.title title)) [
  | inl same ↦ rw same (title_eq-true page.title title same)
  | inr differs ↦ rw (differs, one-add) (title-own missing title number pages)
]

-- ---- a save

kept-at : {X : Type 0} (xs : List X) (x new : X) (place : ℕ) → slice_get xs place ≡ Some x → slice_get (xs ++ new ∷ []) place ≡ Some x
kept-at [] x new place there = absurd (let e : None ≡ Some x = there in cc)
kept-at (y ∷ xs) x new zero there = there
kept-at (y ∷ xs) x new (suc place) there = kept-at xs x new place there

-- what is read back of an entry is this event, and the entry stands
pub record IsReadAs (h : History) (entry : Entry) (event : Event) : Type 0 where
  pub is : event_of_entry h entry ≡ Some event
  pub stands : EntryStands h entry

module _ (h : History) (title : PageTitle) (text : Option (List ℕ)) (moment : ℕ) where
  abbrev after : History
  after = saved h title text moment

  abbrev made_revision : Revision
  made_revision = record { page = page_to_save h title; parent = current_revision h title; moment = moment; text = text }

  abbrev new_current : ℕ
  new_current = cond (is_some text) (next_revision h) 0

  titles-stay : (page : ℕ) → 1 ≤ page → page ≤ length h.pages → title_at after page ≡ title_at h page
  unfolding saved
  titles-stay page positive within =
      let some : eqb page 0 ≡ false = ne_eqb page 0 (λ none. omega (arith, none, positive)) in
      rw some (titles-kept _ title new_current h.pages (page - 1) (omega (arith, positive, within)))

  title-saved : title_at after (page_to_save h title) ≡ title
  unfolding saved
  title-saved =
      let is = page_to_save-is h title in
      let some : eqb (page_to_save h title) 0 ≡ false = ne_eqb (page_to_save h title) 0 (λ none. omega (arith, none, is)) in
      let place : page_to_save h title - 1 ≡ place_of title h.pages = omega (arith, is) in
      rw (some, place) (title-own _ title new_current h.pages)

  revision-stays : (at : ℕ) (revision : Revision) → revision_at h at ≡ Some revision → revision_at after at ≡ Some revision
  unfolding saved
  revision-stays at revision there = elim (cases_Bool (eqb at 0)) [
    | inl none ↦ absurd (let e : None ≡ Some revision = rw none at there in cc)
    | inr some ↦ rw some (kept-at h.revisions revision made_revision (at - 1) (rw some at there))
  ]

  stands-saved : (at : ℕ) → RevisionStands h at → RevisionStands after at
  unfolding saved
  stands-saved at stands = record {
    revision = stands.revision;
    there = revision-stays at stands.revision stands.there;
    positive = stands.positive;
    within = let few = stands.within in let more = no-fewer title new_current h.pages in omega (arith, few, more);
  }

  event-saved : (at : ℕ) → RevisionStands h at → event_of_entry after (entry.Save at) ≡ event_of_entry h (entry.Save at)
  event-saved at stands =
      let revision = stands.revision in
      ap (λ (o : Option Revision). option_map (save_of_revision after) o) (revision-stays at revision stands.there)
      ∙ (ap (λ (t : PageTitle). Some (Save t revision.text revision.moment)) (titles-stay revision.page stands.positive stands.within)
      ∙ ap (λ (o : Option Revision). option_map (save_of_revision h) o) (sym stands.there))

  pub stays-saved : (e : Entry) (event : Event) → IsReadAs h e event → IsReadAs after e event
  stays-saved (entry.Save at) event read = record { is = event-saved at read.stands ∙ read.is; stands = stands-saved at read.stands }
  stays-saved entry.Claim event read = record { is = read.is; stands = tt }
  stays-saved (entry.Done ticket) event read = record { is = read.is; stands = tt }
  stays-saved (entry.Back ticket) event read = record { is = read.is; stands = tt }
  stays-saved entry.Fan event read = record { is = read.is; stands = tt }

  revision-new : revision_at after (next_revision h) ≡ Some made_revision
  unfolding saved
  revision-new =
      let some : eqb (next_revision h) 0 ≡ false = ne_eqb (next_revision h) 0 (λ none. omega (arith, none)) in
      let place : next_revision h - 1 ≡ length h.revisions = omega arith in
      rw (some, place) (last-at h.revisions made_revision)

  new-within : (1 ≤ page_to_save h title) × (page_to_save h title ≤ length after.pages)
  unfolding saved
  new-within = own-within title new_current h.pages

  pub read-saved : IsReadAs after (entry.Save (next_revision h)) (Save title text moment)
  read-saved = record {
    is = ap (λ (o : Option Revision). option_map (save_of_revision after) o) revision-new ∙ ap (λ (t : PageTitle). Some (Save t text moment)) title-saved;
    stands = record { revision = made_revision; there = revision-new; positive = new-within.0; within = new-within.1 };
  }

-- ---- each event

stays-same : (old later : History) (e : Entry) (event : Event) → later ≡ old → IsReadAs old e event → IsReadAs later e event
stays-same old later e event same = subst (λ (h : History). IsReadAs h e event) (sym same)

pub stays-stepped : (most : ℕ) (state next : State) (journal : ℕ) (made : Event) (e : Entry) (event : Event) → step_by most state journal made ≡ Some next → IsReadAs state.history e event → IsReadAs next.history e event
stays-stepped most state next journal (Save title text moment) e event done read =
    stays-same (saved state.history title text moment) next.history e event (history-saved most state next journal title text moment done) (stays-saved state.history title text moment e event read)
stays-stepped most state next journal Claim e event done read = stays-same state.history next.history e event (history-claimed most state next journal done) read
stays-stepped most state next journal (Done ticket) e event done read = stays-same state.history next.history e event (history-refreshed most state next journal ticket done) read
stays-stepped most state next journal (Back ticket) e event done read = stays-same state.history next.history e event (history-given_back most state next journal ticket done) read
stays-stepped most state next journal Fan e event done read = stays-same state.history next.history e event (history-fanned most state next journal done) read

-- the entry of an event, where the next revision has this number
abbrev pub entry_of : ℕ → Event → Entry
entry_of next (Save title text moment) = entry.Save next
entry_of next Claim = entry.Claim
entry_of next (Done ticket) = entry.Done ticket
entry_of next (Back ticket) = entry.Back ticket
entry_of next Fan = entry.Fan

pub read-stepped : (most : ℕ) (state next : State) (journal : ℕ) (event : Event) → step_by most state journal event ≡ Some next → IsReadAs next.history (entry_of (next_revision state.history) event) event
read-stepped most state next journal (Save title text moment) done =
    stays-same (saved state.history title text moment) next.history (entry.Save (next_revision state.history)) (Save title text moment) (history-saved most state next journal title text moment done) (read-saved state.history title text moment)
read-stepped most state next journal Claim done = record { is = refl; stands = tt }
read-stepped most state next journal (Done ticket) done = record { is = refl; stands = tt }
read-stepped most state next journal (Back ticket) done = record { is = refl; stands = tt }
read-stepped most state next journal Fan done = record { is = refl; stands = tt }

-- ---- a journal

-- the entries are read back as these events
data AreReadAs (h : History) : List Entry → List Event → Type 0 where
  none : AreReadAs h [] []
  more : {e : Entry} {event : Event} {entries : List Entry} {events : List Event} → IsReadAs h e event → AreReadAs h entries events → AreReadAs h (e ∷ entries) (event ∷ events)

events-read : (h : History) (entries : List Entry) (events : List Event) → AreReadAs h entries events → events_of h entries ≡ events
events-read h [] [] none = refl
events-read h [] (event ∷ events) read = elim read [ ]
events-read h (e ∷ entries) [] read = elim read [ ]
events-read h (e ∷ entries) (event ∷ events) (more one later) = ap₂ (λ o es. cons_option o es) one.is (events-read h entries events later)

stays-from : (most : ℕ) (state last : State) (journal : ℕ) (events : List Event) (e : Entry) (event : Event) → replay_from most state journal events ≡ Some last → IsReadAs state.history e event → IsReadAs last.history e event
stays-from most state last journal [] e event done read = let same : state ≡ last = cc in subst (λ (s : State). IsReadAs s.history e event) same read
stays-from most state last journal (made ∷ events) e event done read =
    option_and_then_some (λ next. replay_from most next (journal + 1) events) (step_by most state journal made) last done
    (λ next stepped later. stays-from most next last (journal + 1) events e event later (stays-stepped most state next journal made e event stepped read))

all-stay : (most : ℕ) (state last : State) (journal : ℕ) (events : List Event) (entries : List Entry) (read_as : List Event) → replay_from most state journal events ≡ Some last → AreReadAs state.history entries read_as → AreReadAs last.history entries read_as
all-stay most state last journal events [] [] done none = none
all-stay most state last journal events [] (event ∷ read_as) done read = elim read [ ]
all-stay most state last journal events (e ∷ entries) [] done read = elim read [ ]
all-stay most state last journal events (e ∷ entries) (event ∷ read_as) done (more one later) =
    more (stays-from most state last journal events e event done one) (all-stay most state last journal events entries read_as done later)

one_more : (h : History) (title : PageTitle) (text : Option (List ℕ)) (moment : ℕ) → next_revision (saved h title text moment) ≡ next_revision h + 1
unfolding saved
one_more h title text moment = ap (λ n. n + 1) (length-append h.revisions (made_revision h title text moment ∷ []))

-- the number of the next revision behind an event
next-revision : (most : ℕ) (state next : State) (journal : ℕ) (event : Event) (events : List Event) → step_by most state journal event ≡ Some next
    → entries_from (next_revision state.history) (event ∷ events) ≡ entry_of (next_revision state.history) event ∷ entries_from (next_revision next.history) events
next-revision most state next journal (Save title text moment) events done =
    ap (λ n. entry.Save (next_revision state.history) ∷ entries_from n events)
    (sym (ap (λ (h : History). next_revision h) (history-saved most state next journal title text moment done) ∙ one_more state.history title text moment))
next-revision most state next journal Claim events done = ap (λ (h : History). entry.Claim ∷ entries_from (next_revision h) events) (sym (history-claimed most state next journal done))
next-revision most state next journal (Done ticket) events done = ap (λ (h : History). entry.Done ticket ∷ entries_from (next_revision h) events) (sym (history-refreshed most state next journal ticket done))
next-revision most state next journal (Back ticket) events done = ap (λ (h : History). entry.Back ticket ∷ entries_from (next_revision h) events) (sym (history-given_back most state next journal ticket done))
next-revision most state next journal Fan events done = ap (λ (h : History). entry.Fan ∷ entries_from (next_revision h) events) (sym (history-fanned most state next journal done))

all-made : (most : ℕ) (state last : State) (journal : ℕ) (events : List Event) → replay_from most state journal events ≡ Some last → AreReadAs last.history (entries_from (next_revision state.history) events) events
all-made most state last journal [] done = none
all-made most state last journal (event ∷ events) done =
    option_and_then_some (λ next. replay_from most next (journal + 1) events) (step_by most state journal event) last done
    (λ next stepped later.
    subst (λ (entries : List Entry). AreReadAs last.history entries (event ∷ events)) (sym (next-revision most state next journal event events stepped))
    (more (stays-from most next last (journal + 1) events (entry_of (next_revision state.history) event) event later (read-stepped most state next journal event stepped))
    (all-made most next last (journal + 1) events later)))

pub events-made : (most : ℕ) (start last : State) (journal : ℕ) (events : List Event) → replay_from most start journal events ≡ Some last → events_of last.history (entries_from (next_revision start.history) events) ≡ events
events-made most start last journal events done = events-read last.history (entries_from (next_revision start.history) events) events (all-made most start last journal events done)

pub events-stay : (most : ℕ) (start middle last : State) (journal later : ℕ) (events behind : List Event) → replay_from most start journal events ≡ Some middle → replay_from most middle later behind ≡ Some last
    → events_of last.history (entries_from (next_revision start.history) events) ≡ events
events-stay most start middle last journal later events behind done then =
    events-read last.history (entries_from (next_revision start.history) events) events
    (all-stay most middle last later behind (entries_from (next_revision start.history) events) events then (all-made most start middle journal events done))

-- ---- entries that stand

event-told : (h : History) (e : Entry) → EntryStands h e → (event : Event) × IsReadAs h e event
event-told h (entry.Save at) stands = (save_of_revision h stands.revision, record { is = ap (λ (o : Option Revision). option_map (save_of_revision h) o) stands.there; stands = stands })
event-told h entry.Claim stands = (Claim, record { is = refl; stands = tt })
event-told h (entry.Done ticket) stands = (Done ticket, record { is = refl; stands = tt })
event-told h (entry.Back ticket) stands = (Back ticket, record { is = refl; stands = tt })
event-told h entry.Fan stands = (Fan, record { is = refl; stands = tt })

stand-stepped : (most : ℕ) (state next : State) (journal : ℕ) (made : Event) (e : Entry) → step_by most state journal made ≡ Some next → EntryStands state.history e
    → EntryStands next.history e × (event_of_entry next.history e ≡ event_of_entry state.history e)
stand-stepped most state next journal made e done stands =
    let read = event-told state.history e stands in
    let later = stays-stepped most state next journal made e read.0 done read.1 in
    (later.stands, later.is ∙ sym read.1.is)

one-entry : (number : ℕ) (event : Event) → entries_from number (event ∷ []) ≡ entry_of number event ∷ []
one-entry number (Save title text moment) = refl
one-entry number Claim = refl
one-entry number (Done ticket) = refl
one-entry number (Back ticket) = refl
one-entry number Fan = refl

stood-by : (most : ℕ) (state next : State) (journal : ℕ) (made : Event) (entries : List Entry) → step_by most state journal made ≡ Some next → AllByRecursion (EntryStands state.history) entries → events_of next.history entries ≡ events_of state.history entries
stood-by most state next journal made [] done all = refl
stood-by most state next journal made (e ∷ entries) done all =
    ap₂ (λ o es. cons_option o es) (stand-stepped most state next journal made e done all.0).1 (stood-by most state next journal made entries done all.1)

pub events-stepped : (most : ℕ) (state next : State) (journal : ℕ) (event : Event) (entries : List Entry) → All (EntryStands state.history) entries → step_by most state journal event ≡ Some next
    → events_of next.history (entries ++ entries_from (next_revision state.history) (event ∷ [])) ≡ events_of state.history entries ++ event ∷ []
events-stepped most state next journal event entries all done =
    let number = next_revision state.history in
    ap (λ (es : List Entry). events_of next.history (entries ++ es)) (one-entry number event)
    ∙ (filter_map-append (event_of_entry next.history) entries (entry_of number event ∷ [])
    ∙ ap₂ (λ (a b : List Event). a ++ b) (stood-by most state next journal event entries done (recursion_from_All (EntryStands state.history) entries all))
    (ap (λ (o : Option Event). cons_option o []) (read-stepped most state next journal event done).is))

pub all-stand : (most : ℕ) (state next : State) (journal : ℕ) (event : Event) (entries : List Entry) → All (EntryStands state.history) entries → step_by most state journal event ≡ Some next
    → All (EntryStands next.history) (entries ++ entries_from (next_revision state.history) (event ∷ []))
all-stand most state next journal event entries all done =
    let number = next_revision state.history in
    subst (λ (es : List Entry). All (EntryStands next.history) (entries ++ es)) (sym (one-entry number event))
    (All-append (EntryStands next.history) entries (entry_of number event ∷ [])
    (All-weaker (EntryStands state.history) (EntryStands next.history) (λ e stands. (stand-stepped most state next journal event e done stands).0) entries all)
    (All-from_recursion (EntryStands next.history) (entry_of number event ∷ []) ((read-stepped most state next journal event done).stands, tt)))

told-one : (h : History) (e : Entry) → EntryStands h e → IsTold h e
told-one h e stands = let read = event-told h e stands in subst IsSome (sym read.1.is) refl

pub all-told : (state : State) (entries : List Entry) → All (EntryStands state.history) entries → All (IsTold state.history) entries
all-told state entries = All-weaker (EntryStands state.history) (IsTold state.history) (told-one state.history) entries

-- ---- as many events as entries

counted : (o : Option Event) (events : List Event) (n : ℕ) → IsSome o → length events ≡ n → length (cons_option o events) ≡ suc n
counted None events n some same = absurd (let e : false ≡ true = some in cc)
counted (Some event) events n some same = ap suc same

count-told : (h : History) (entries : List Entry) → AllByRecursion (IsTold h) entries → length (events_of h entries) ≡ length entries
count-told h [] all = refl
count-told h (entry ∷ entries) all = counted (event_of_entry h entry) (events_of h entries) (length entries) all.0 (count-told h entries all.1)

pub count-standing : (state : State) (entries : List Entry) → All (EntryStands state.history) entries → length (events_of state.history entries) ≡ length entries
count-standing state entries stand = count-told state.history entries (recursion_from_All (IsTold state.history) entries (all-told state entries stand))
