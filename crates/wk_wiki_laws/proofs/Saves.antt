-- The revisions and the pages after the saves of a journal, and of the journals of many lives.
use Rattle.std.proofs.Common.{◌≡◌, ℕ, ◌+◌, ◌==◌, List, [], ◌∷◌, ◌++◌, length, map, Some, refl, sym, ap, ◌∙◌}
use Rattle.std.specs.Prelude.{take, drop, flat_map, unwrap_or}
use Rattle.std.proofs.lemmas.Bool.{cond_both}
use Rattle.std.proofs.lemmas.List.{append-nil, append_assoc}
use Rattle.std.proofs.lemmas.Option.{option_and_then_some}
use Rattle.std.proofs.Math.Seq.{take-append_seam, drop-append_seam}
use Rattle.wk_page_rules.specs.History.{History, Revision, saved, page_number, current_revision}
use Rattle.wk_table_rules.specs.Rows.{StoreTables}
use Rattle.wk_wiki_rules.specs.Steps.{fan_pages}
use Rattle.wk_wiki_rules.specs.States.{State}
use Rattle.wk_wiki_rules.specs.Events.{Event, Save, Claim, Done, Back, Fan, step_by}
use Rattle.wk_wiki_rules.specs.Tables.{state_of}
use Rattle.wk_wiki_rules.specs.Lives.{reopened, opened, all_refreshed, replay, replay_from, last_state, Lives, LivesOfStore}
use Rattle.wk_wiki_laws.specs.Saves.{PageSave, Continues, saves, after_saves}
use Rattle.wk_wiki_laws.proofs.Histories.{history-saved, history-claimed, history-refreshed, history-given_back, history-fanned}

-- ---- saves, one after the other

after_saves-append : (h : History) (before behind : List PageSave) → after_saves h (before ++ behind) ≡ after_saves (after_saves h before) behind
after_saves-append h [] behind = refl
after_saves-append h (save ∷ before) behind = after_saves-append (saved h save.title save.text save.moment) before behind

after_saves-event : (most : ℕ) (state next : State) (journal : ℕ) (event : Event) → step_by most state journal event ≡ Some next
    → next.history ≡ after_saves state.history (saves (event ∷ []))
after_saves-event most state next journal (Save title text moment) e = history-saved most state next journal title text moment e
after_saves-event most state next journal Claim e = history-claimed most state next journal e
after_saves-event most state next journal (Done ticket) e = history-refreshed most state next journal ticket e
after_saves-event most state next journal (Back ticket) e = history-given_back most state next journal ticket e
after_saves-event most state next journal Fan e = history-fanned most state next journal e

saves-cons : (event : Event) (events : List Event) → saves (event ∷ events) ≡ saves (event ∷ []) ++ saves events
saves-cons (Save title text moment) events = refl
saves-cons Claim events = refl
saves-cons (Done ticket) events = refl
saves-cons (Back ticket) events = refl
saves-cons Fan events = refl

pub history-replayed : (most : ℕ) (start last : State) (journal : ℕ) (events : List Event) → replay_from most start journal events ≡ Some last
    → last.history ≡ after_saves start.history (saves events)
history-replayed most start last journal [] e =
    let same : start ≡ last = (let some : Some start ≡ Some last = e in cc) in
    ap (λ (state : State). state.history) (sym same)
history-replayed most start last journal (event ∷ events) e =
    let later = λ (next : State). history-replayed most next last (journal + 1) events in
    option_and_then_some (λ next. replay_from most next (journal + 1) events) (step_by most start journal event) last e
    (λ next step rest. later next rest
    ∙ ap (λ h. after_saves h (saves events)) (after_saves-event most start next journal event step)
    ∙ sym (after_saves-append start.history (saves (event ∷ [])) (saves events))
    ∙ ap (λ made. after_saves start.history made) (sym (saves-cons event events)))

pub history-lived : (start last : State) (journals : List (List Event)) → Lives start journals last
    → last.history ≡ after_saves start.history (flat_map saves journals)
history-lived start last [] e =
    let same : start ≡ last = (let some : Some start ≡ Some last = e in cc) in
    ap (λ (state : State). state.history) (sym same)
history-lived start last (journal ∷ journals) e =
    let later = λ (ended : State). history-lived ended last journals in
    option_and_then_some (λ ended. last_state ended journals) (replay (reopened start) journal) last e
    (λ ended first rest. later ended rest
    ∙ ap (λ h. after_saves h (flat_map saves journals)) (history-replayed fan_pages (reopened start) ended 0 journal first)
    ∙ sym (after_saves-append start.history (saves journal) (flat_map saves journals)))

history-opened : (tables : StoreTables) → (opened tables).history ≡ (state_of tables).history
history-opened tables =
    cond_both (tables.version == 1) (all_refreshed (state_of tables)) (state_of tables)
    (λ (state : State). (reopened state).history ≡ (state_of tables).history) (λ old. refl) (λ new. refl)

pub history-lived_from_store : (tables : StoreTables) (last : State) (journals : List (List Event)) → LivesOfStore tables journals last
    → last.history ≡ after_saves (state_of tables).history (flat_map saves journals)
history-lived_from_store tables last [] e =
    let same : opened tables ≡ last = (let some : Some (opened tables) ≡ Some last = e in cc) in
    ap (λ (state : State). state.history) (sym same) ∙ history-opened tables
history-lived_from_store tables last (journal ∷ journals) e =
    option_and_then_some (λ ended. last_state ended journals) (replay (opened tables) journal) last e
    (λ ended first rest. history-lived ended last journals rest
    ∙ ap (λ h. after_saves h (flat_map saves journals)) (history-replayed fan_pages (opened tables) ended 0 journal first)
    ∙ sym (after_saves-append (opened tables).history (saves journal) (flat_map saves journals))
    ∙ ap (λ h. after_saves h (saves journal ++ flat_map saves journals)) (history-opened tables))

-- ---- the revisions that saves append

appended : History → List PageSave → List Revision
appended h [] = []
appended h (save ∷ later) = record {
  page = unwrap_or (page_number h save.title) (length h.pages + 1);
  parent = current_revision h save.title;
  moment = save.moment;
  text = save.text;
} ∷ appended (saved h save.title save.text save.moment) later

revisions-after_saves : (h : History) (made : List PageSave) → (after_saves h made).revisions ≡ h.revisions ++ appended h made
unfolding saved appended
revisions-after_saves h [] = sym (append-nil h.revisions)
revisions-after_saves h (save ∷ later) =
    revisions-after_saves (saved h save.title save.text save.moment) later
    ∙ append_assoc h.revisions (record {
      page = unwrap_or (page_number h save.title) (length h.pages + 1);
      parent = current_revision h save.title;
      moment = save.moment;
      text = save.text;
    } ∷ []) (appended (saved h save.title save.text save.moment) later)

texts-appended : (h : History) (made : List PageSave) → map (λ (revision : Revision). revision.text) (appended h made) ≡ map (λ (save : PageSave). save.text) made
unfolding appended
texts-appended h [] = refl
texts-appended h (save ∷ later) = ap (λ texts. save.text ∷ texts) (texts-appended (saved h save.title save.text save.moment) later)

moments-appended : (h : History) (made : List PageSave) → map (λ (revision : Revision). revision.moment) (appended h made) ≡ map (λ (save : PageSave). save.moment) made
unfolding appended
moments-appended h [] = refl
moments-appended h (save ∷ later) = ap (λ moments. save.moment ∷ moments) (moments-appended (saved h save.title save.text save.moment) later)

pub continues-after_saves : (old : History) (made : List PageSave) (new : History) → new ≡ after_saves old made → Continues old made new
continues-after_saves old made new e =
    let whole : new.revisions ≡ old.revisions ++ appended old made = ap (λ (h : History). h.revisions) e ∙ revisions-after_saves old made in
    let behind : drop (length old.revisions) new.revisions ≡ appended old made =
    ap (λ revisions. drop (length old.revisions) revisions) whole ∙ drop-append_seam old.revisions (appended old made) in
    record {
      first = ap (λ revisions. take (length old.revisions) revisions) whole ∙ take-append_seam old.revisions (appended old made);
      texts = ap (λ revisions. map (λ (revision : Revision). revision.text) revisions) behind ∙ texts-appended old made;
      moments = ap (λ revisions. map (λ (revision : Revision). revision.moment) revisions) behind ∙ moments-appended old made;
    }
