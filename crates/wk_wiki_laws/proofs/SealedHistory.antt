-- Journals that keep a seal.
use Rattle.std.proofs.Common.{◌≡◌, ℕ, zero, suc, ◌+◌, true, false, ◌||◌, List, [], ◌∷◌, ◌++◌, length, take, drop, Option, Some, None, refl, sym, ap, ap₂, ◌∙◌}
use Rattle.std.specs.Prelude.{option_and_then}
use Rattle.std.specs.List.{list_any}
use Rattle.std.proofs.lemmas.Bool.{or_parts}
use Rattle.std.proofs.lemmas.List.{take-append-drop}
use Rattle.std.proofs.lemmas.List.Folds.{list_any-append}
use Rattle.std.proofs.lemmas.Option.{option_and_then_some}
use Rattle.wk_wiki_rules.specs.States.{State}
use Rattle.wk_wiki_rules.specs.Events.{Event, Save, Claim, Done, Back, Fan, step_by}
use Rattle.wk_wiki_rules.specs.Lives.{replay_from, replay_by}
use Rattle.wk_wiki_laws.proofs.Histories.{history-claimed, history-refreshed, history-given_back, history-fanned}
use Rattle.wk_wiki_rules.specs.Entries.{is_save, KeepsSeal}
use Rattle.wk_wiki_laws.proofs.Parts.{replay-append}

-- an event that is no save
history-step : (served : ℕ) (state next : State) (journal : ℕ) (event : Event) → is_save event ≡ false → step_by served state journal event ≡ Some next → next.history ≡ state.history
history-step served state next journal (Save title text moment) none done = absurd (let e : true ≡ false = none in cc)
history-step served state next journal Claim none done = history-claimed served state next journal done
history-step served state next journal (Done ticket) none done = history-refreshed served state next journal ticket done
history-step served state next journal (Back ticket) none done = history-given_back served state next journal ticket done
history-step served state next journal Fan none done = history-fanned served state next journal done

history-unsaved : (served : ℕ) (state last : State) (journal : ℕ) (events : List Event) → list_any is_save events ≡ false → replay_from served state journal events ≡ Some last → last.history ≡ state.history
history-unsaved served state last journal [] none done = let e : Some state ≡ Some last = done in let same : state ≡ last = cc in ap (λ (s : State). s.history) (sym same)
history-unsaved served state last journal (event ∷ events) none done =
    let parts = or_parts (is_save event) (list_any is_save events) none in
    option_and_then_some (λ next. replay_from served next (journal + 1) events) (step_by served state journal event) last done
    (λ next stepped later. history-unsaved served next last (journal + 1) events parts.1 later ∙ history-step served state next journal event parts.0 stepped)

pub history-sealed : (served : ℕ) (start middle last : State) (point : ℕ) (events : List Event) → KeepsSeal (Some point) events → replay_by served start (take point events) ≡ Some middle → replay_by served start events ≡ Some last → last.history ≡ middle.history
history-sealed served start middle last point events sealed before done =
    let whole : replay_by served start (take point events ++ drop point events) ≡ Some last = ap (λ all. replay_by served start all) (take-append-drop point events) ∙ done in
    let later : replay_from served middle (0 + length (take point events)) (drop point events) ≡ Some last =
    ap (λ o. option_and_then (λ state. replay_from served state (0 + length (take point events)) (drop point events)) o) (sym before)
    ∙ (sym (replay-append served start 0 (take point events) (drop point events)) ∙ whole) in
    history-unsaved served middle last (0 + length (take point events)) (drop point events) sealed later

drop-more : (point : ℕ) (before more : List Event) → list_any is_save (drop point before) ≡ false → list_any is_save more ≡ false → list_any is_save (drop point (before ++ more)) ≡ false
drop-more zero before more one two = list_any-append is_save before more ∙ ap₂ (λ a b. a || b) one two
drop-more (suc point) [] more one two = none-dropped (suc point) more two
  where
    none-dropped : (n : ℕ) (events : List Event) → list_any is_save events ≡ false → list_any is_save (drop n events) ≡ false
    none-dropped zero events none = none
    none-dropped (suc n) [] none = refl
    none-dropped (suc n) (event ∷ events) none = none-dropped n events (or_parts (is_save event) (list_any is_save events) none).1
drop-more (suc point) (event ∷ before) more one two = drop-more point before more one two

pub seal-longer : (sealed : Option ℕ) (before more : List Event) → KeepsSeal sealed before → list_any is_save more ≡ false → KeepsSeal sealed (before ++ more)
seal-longer None before more keeps none = tt
seal-longer (Some point) before more keeps none = drop-more point before more keeps none

-- no event stands behind the end of a journal
pub sealed-now : (journal : List Event) → list_any is_save (drop (length journal) journal) ≡ false
sealed-now [] = refl
sealed-now (event ∷ journal) = sealed-now journal
