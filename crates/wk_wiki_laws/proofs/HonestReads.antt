-- Reads that are honest over a history stay so: no event changes the text of a revision.
use Rattle.std.proofs.Common.{◌≡◌, ℕ, ◌+◌, List, [], ◌∷◌, Option, Some, None, sym, ap, ◌∙◌, inr, subst}
use Rattle.std.specs.Prelude.{is_some}
use Rattle.std.proofs.lemmas.List.Elements.{All-weaker}
use Rattle.std.proofs.lemmas.Option.{option_and_then_some}
use Rattle.wk_text_rules.specs.Titles.{PageTitle}
use Rattle.wk_page_rules.specs.History.{History, text_of_revision, saved}
use Rattle.wk_table_rules.specs.Rows.{StoreTables}
use Rattle.wk_wiki_rules.specs.Steps.{fan_pages}
use Rattle.wk_view_rules.specs.Worlds.{PageText, Read, page_of, HasItsText, IsHonest}
use Rattle.wk_wiki_rules.specs.States.{State}
use Rattle.wk_wiki_rules.specs.Events.{Event, Save, Claim, Done, Back, Fan, step_by}
use Rattle.wk_wiki_rules.specs.Lives.{replay_from, replay, reopened, opened, last_state, Lives, LivesOfStore}
use Rattle.wk_wiki_laws.proofs.Histories.{history-saved, history-claimed, history-refreshed, history-given_back, history-fanned}
use Rattle.wk_wiki_laws.proofs.SavedHistory.{text-kept}

text-stays : (h : History) (title : PageTitle) (text : Option (List ℕ)) (moment : ℕ) (o : Option PageText) → HasItsText (text_of_revision h) o → HasItsText (text_of_revision (saved h title text moment)) o
text-stays h title text moment None has = has
text-stays h title text moment (Some p) has = text-kept h title text moment p.revision (inr (ap is_some has)) ∙ has

honest-saved : (h : History) (title : PageTitle) (text : Option (List ℕ)) (moment : ℕ) (reads : List Read) → IsHonest (text_of_revision h) reads → IsHonest (text_of_revision (saved h title text moment)) reads
honest-saved h title text moment reads =
    All-weaker (λ (r : Read). HasItsText (text_of_revision h) (page_of r.answer)) (λ (r : Read). HasItsText (text_of_revision (saved h title text moment)) (page_of r.answer))
    (λ r. text-stays h title text moment (page_of r.answer)) reads

moved-to : (old new : History) (reads : List Read) → new ≡ old → IsHonest (text_of_revision old) reads → IsHonest (text_of_revision new) reads
moved-to old new reads same = subst (λ (h : History). IsHonest (text_of_revision h) reads) (sym same)

pub IsHonest-stepped : (most : ℕ) (state next : State) (journal : ℕ) (event : Event) (reads : List Read) → step_by most state journal event ≡ Some next → IsHonest (text_of_revision state.history) reads → IsHonest (text_of_revision next.history) reads
IsHonest-stepped most state next journal (Save title text moment) reads done honest =
    moved-to (saved state.history title text moment) next.history reads (history-saved most state next journal title text moment done)
    (honest-saved state.history title text moment reads honest)
IsHonest-stepped most state next journal Claim reads done honest = moved-to state.history next.history reads (history-claimed most state next journal done) honest
IsHonest-stepped most state next journal (Done ticket) reads done honest = moved-to state.history next.history reads (history-refreshed most state next journal ticket done) honest
IsHonest-stepped most state next journal (Back ticket) reads done honest = moved-to state.history next.history reads (history-given_back most state next journal ticket done) honest
IsHonest-stepped most state next journal Fan reads done honest = moved-to state.history next.history reads (history-fanned most state next journal done) honest

-- ---- journals and lives

abbrev Honest : List Read → State → Type 0
Honest reads state = IsHonest (text_of_revision state.history) reads

pub IsHonest-replayed : (most : ℕ) (start last : State) (journal : ℕ) (events : List Event) (reads : List Read) → replay_from most start journal events ≡ Some last → IsHonest (text_of_revision start.history) reads → IsHonest (text_of_revision last.history) reads
IsHonest-replayed most start last journal [] reads done honest = let same : start ≡ last = cc in subst (Honest reads) same honest
IsHonest-replayed most start last journal (event ∷ events) reads done honest =
    option_and_then_some (λ next. replay_from most next (journal + 1) events) (step_by most start journal event) last done
    (λ next stepped later. IsHonest-replayed most next last (journal + 1) events reads later (IsHonest-stepped most start next journal event reads stepped honest))

pub IsHonest-lived : (start last : State) (journals : List (List Event)) (reads : List Read) → Lives start journals last → IsHonest (text_of_revision start.history) reads → IsHonest (text_of_revision last.history) reads
IsHonest-lived start last [] reads lives honest = let same : start ≡ last = cc in subst (Honest reads) same honest
IsHonest-lived start last (journal ∷ journals) reads lives honest =
    option_and_then_some (λ ended. last_state ended journals) (replay (reopened start) journal) last lives
    (λ ended replayed later. IsHonest-lived ended last journals reads later (IsHonest-replayed fan_pages (reopened start) ended 0 journal reads replayed honest))

pub IsHonest-lived_from_store : (tables : StoreTables) (last : State) (journals : List (List Event)) (reads : List Read) → LivesOfStore tables journals last → IsHonest (text_of_revision (opened tables).history) reads → IsHonest (text_of_revision last.history) reads
IsHonest-lived_from_store tables last [] reads lives honest = let same : opened tables ≡ last = cc in subst (Honest reads) same honest
IsHonest-lived_from_store tables last (journal ∷ journals) reads lives honest =
    option_and_then_some (λ ended. last_state ended journals) (replay (opened tables) journal) last lives
    (λ ended replayed later. IsHonest-lived ended last journals reads later (IsHonest-replayed fan_pages (opened tables) ended 0 journal reads replayed honest))
