-- The entries of a journal, one by one: which event each stands for.
use Rattle.std.proofs.Common.{◌≡◌, ℕ, zero, suc, ◌+◌, ◌-◌, ◌≤◌, ◌<◌, eqb, false, List, [], ◌∷◌, length, Option, Some, slice_get, refl, sym, ap, ◌∙◌, subst, arith}
use Rattle.std.proofs.lemmas.Bool.{ne_eqb}
use Rattle.std.proofs.lemmas.List.{length-append}
use Rattle.std.proofs.lemmas.Option.{option_and_then_some}
use Rattle.wk_text_rules.specs.Titles.{PageTitle}
use Rattle.wk_page_rules.specs.History.{History, Revision, current_revision, next_revision, page_to_save, saved}
use Rattle.wk_wiki_laws.proofs.Histories.{history-saved, history-claimed, history-refreshed, history-given_back, history-fanned}
use Rattle.wk_wiki_rules.specs.States.{State}
use Rattle.wk_wiki_rules.specs.Events.{Event, Save, Claim, Done, Back, Fan, step_by}
use Rattle.wk_wiki_rules.specs.Lives.{replay_by, replay_from}
use Rattle.wk_wiki_rules.specs.Entries.{entries_from}
use Rattle.wk_wiki_rules.specs.declared.Entry.{Entry}
use Rattle.wk_wiki_rules.specs.declared.Entry.TheVariants as entry
use Rattle.wk_core.specs.Entries.{entry_at}
use Rattle.wk_life_laws.proofs.EntriesBack.{IsReadAs, entry_of, read-stepped, stays-stepped}

stays : (most : ℕ) (state last : State) (journal : ℕ) (events : List Event) (e : Entry) (event : Event) → replay_from most state journal events ≡ Some last → IsReadAs state.history e event → IsReadAs last.history e event
stays most state last journal [] e event done read = let same : state ≡ last = cc in subst (λ (s : State). IsReadAs s.history e event) same read
stays most state last journal (made ∷ events) e event done read =
    option_and_then_some (λ next. replay_from most next (journal + 1) events) (step_by most state journal made) last done
    (λ next stepped later. stays most next last (journal + 1) events e event later (stays-stepped most state next journal made e event stepped read))

one-more : (h : History) (title : PageTitle) (text : Option (List ℕ)) (moment : ℕ) → next_revision (saved h title text moment) ≡ next_revision h + 1
unfolding saved
one-more h title text moment =
    let made : Revision = record { page = page_to_save h title; parent = current_revision h title; moment = moment; text = text } in
    ap (λ n. n + 1) (length-append h.revisions (made ∷ []))

-- the entries of a journal whose first event is this
first : (most : ℕ) (state next : State) (journal : ℕ) (event : Event) (events : List Event) → step_by most state journal event ≡ Some next
    → entries_from (next_revision state.history) (event ∷ events) ≡ entry_of (next_revision state.history) event ∷ entries_from (next_revision next.history) events
first most state next journal (Save title text moment) events done =
    ap (λ n. entry.Save (next_revision state.history) ∷ entries_from n events)
    (sym (ap (λ (h : History). next_revision h) (history-saved most state next journal title text moment done) ∙ one-more state.history title text moment))
first most state next journal Claim events done = ap (λ (h : History). entry.Claim ∷ entries_from (next_revision h) events) (sym (history-claimed most state next journal done))
first most state next journal (Done ticket) events done = ap (λ (h : History). entry.Done ticket ∷ entries_from (next_revision h) events) (sym (history-refreshed most state next journal ticket done))
first most state next journal (Back ticket) events done = ap (λ (h : History). entry.Back ticket ∷ entries_from (next_revision h) events) (sym (history-given_back most state next journal ticket done))
first most state next journal Fan events done = ap (λ (h : History). entry.Fan ∷ entries_from (next_revision h) events) (sym (history-fanned most state next journal done))

-- the entry at a place of a journal, and the event that it stands for
pub record IsEntryAt (h : History) (entries : List Entry) (events : List Event) (place : ℕ) : Type 0 where
  pub entry : Entry
  pub event : Event
  pub there : slice_get entries place ≡ Some entry
  pub made : slice_get events place ≡ Some event
  pub read : IsReadAs h entry event

pub entry-at : (most : ℕ) (state last : State) (journal : ℕ) (events : List Event) (place : ℕ) → replay_from most state journal events ≡ Some last → place < length events
    → IsEntryAt last.history (entries_from (next_revision state.history) events) events place
entry-at most state last journal [] place done within = absurd (omega (arith, within))
entry-at most state last journal (event ∷ events) zero done within =
    option_and_then_some (λ next. replay_from most next (journal + 1) events) (step_by most state journal event) last done
    (λ next stepped later. record {
      entry = entry_of (next_revision state.history) event;
      event = event;
      there = ap (λ (es : List Entry). slice_get es 0) (first most state next journal event events stepped);
      made = refl;
      read = stays most next last (journal + 1) events (entry_of (next_revision state.history) event) event later (read-stepped most state next journal event stepped);
    })
entry-at most state last journal (event ∷ events) (suc place) done within =
    option_and_then_some (λ next. replay_from most next (journal + 1) events) (step_by most state journal event) last done
    (λ next stepped later.
    let at = entry-at most next last (journal + 1) events place later (omega (arith, within)) in record {
      entry = at.entry;
      event = at.event;
      there = ap (λ (es : List Entry). slice_get es (suc place)) (first most state next journal event events stepped) ∙ at.there;
      made = at.made;
      read = at.read;
    })

-- so it is with the entry that is found by its number, from 1
pub record IsFound (h : History) (found : Option Entry) (events : List Event) (number : ℕ) : Type 0 where
  pub entry : Entry
  pub event : Event
  pub is : found ≡ Some entry
  pub made : slice_get events (number - 1) ≡ Some event
  pub read : IsReadAs h entry event

pub found-at : (most : ℕ) (start last : State) (events : List Event) (number : ℕ) (found : Option Entry) → replay_by most start events ≡ Some last → 1 ≤ number → number ≤ length events
    → found ≡ entry_at (entries_from (next_revision start.history) events) number → IsFound last.history found events number
found-at most start last events number found done positive within is =
    let at = entry-at most start last 0 events (number - 1) done (omega (arith, positive, within)) in
    let some : eqb number 0 ≡ false = ne_eqb number 0 (λ none. omega (arith, none, positive)) in
    let there : entry_at (entries_from (next_revision start.history) events) number ≡ Some at.entry = rw some at.there in
    record { entry = at.entry; event = at.event; is = is ∙ there; made = at.made; read = at.read }
