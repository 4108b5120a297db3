-- Lives one after the other.
use Rattle.std.proofs.Common.{◌≡◌, Bool, false, ◌||◌, List, [], ◌∷◌, ◌++◌, Option, Some, None, refl, sym, ap, ◌∙◌, append_assoc}
use Rattle.std.specs.Prelude.{option_and_then}
use Rattle.std.specs.List.{list_any}
use Rattle.std.proofs.lemmas.List.{append-nil}
use Rattle.std.proofs.lemmas.List.Folds.{list_any-append}
use Rattle.wk_wiki_rules.specs.States.{State}
use Rattle.wk_wiki_rules.specs.Events.{Event}
use Rattle.wk_wiki_rules.specs.Lives.{last_state, reopened, replay}
use Rattle.wk_wiki_rules.specs.Entries.{is_save}
use Rattle.wk_wiki_rules.specs.Starts.{Start}
use Rattle.wk_life_laws.specs.Runs.{IsRun}
use Rattle.wk_life_laws.proofs.RunFacts.{run_replayed}
use Rattle.wk_core.specs.Seen.{WikiSeen}
use Rattle.wk_tools.specs.Lived.{HasLived, has_save}
use Rattle.wk_tools.specs.Rounds.{LivesOn, in_first, in_later, renewed}

-- one life more
lives-push : (start last next : State) (journals : List (List Event)) (journal : List Event) → last_state start journals ≡ Some last → replay (reopened last) journal ≡ Some next → last_state start (journals ++ journal ∷ []) ≡ Some next
lives-push start last next [] journal before then =
    let same : start ≡ last = cc in
    ap (option_and_then (λ ended. last_state ended [])) (ap (λ s. replay (reopened s) journal) same ∙ then)
lives-push start last next (first ∷ journals) journal before then = by (replay (reopened start) first) before (λ ended. lives-push ended last next journals journal)
  where
    by : (o : Option State) → option_and_then (λ ended. last_state ended journals) o ≡ Some last
        → ((ended : State) → last_state ended journals ≡ Some last → replay (reopened last) journal ≡ Some next → last_state ended (journals ++ journal ∷ []) ≡ Some next)
        → option_and_then (λ ended. last_state ended (journals ++ journal ∷ [])) o ≡ Some next
    by None none later = absurd (let e : None ≡ Some last = none in cc)
    by (Some ended) is later = later ended is then

none-append : {X : Type 0} (p : X → Bool) (xs ys : List X) → list_any p xs ≡ false → list_any p ys ≡ false → list_any p (xs ++ ys) ≡ false
none-append p xs ys unsaved unsaved_later = list_any-append p xs ys ∙ (ap (λ b. b || list_any p ys) unsaved ∙ unsaved_later)

none-push : (journals : List (List Event)) (journal : List Event) → list_any has_save journals ≡ false → has_save journal ≡ false → list_any has_save (journals ++ journal ∷ []) ≡ false
none-push journals journal unsaved unsaved_later = none-append has_save journals (journal ∷ []) unsaved (ap (λ b. b || false) unsaved_later)

module _ {K : Type 0} where
  pub same-life : (wiki : WikiSeen K) → LivesOn wiki wiki
  same-life wiki = in_first [] refl (sym (append-nil wiki.journal)) refl

  -- events that aren't saves
  pub lives-events : (old middle new : WikiSeen K) (events : List Event) → LivesOn old middle → new.start ≡ middle.start → new.journal ≡ middle.journal ++ events → has_save events ≡ false → LivesOn old new
  lives-events old middle new events (in_first added start journal unsaved) same more unsaved_later =
      in_first (added ++ events) (same ∙ start) (more ∙ (ap (λ (j : List Event). j ++ events) journal ∙ append_assoc old.journal added events)) (none-append is_save added events unsaved unsaved_later)
  lives-events old middle new events (in_later added ended last later first lives start unsaved nothing now) same more unsaved_later =
      in_later added ended last later first lives (ap (λ (s : Start). s.state) same ∙ start) unsaved nothing (ap has_save more ∙ none-append is_save middle.journal events now unsaved_later)

  -- a new journal
  pub lives-renewed : (old middle new : WikiSeen K) → IsRun middle.start middle.journal middle.state → LivesOn old middle → new ≡ record (renewed middle) { keeper = new.keeper } → LivesOn old new
  lives-renewed old middle new run (in_first added start journal unsaved) is =
      let replayed = run_replayed middle.start middle.journal middle.state run in
      let first : replay old.start.state (old.journal ++ added) ≡ Some middle.state = ap (λ (s : Start). replay s.state (old.journal ++ added)) (sym start) ∙ (ap (replay middle.start.state) (sym journal) ∙ replayed) in
      in_later added middle.state middle.state [] first refl (ap (λ (w : WikiSeen K). w.start.state) is) unsaved refl (ap (λ (w : WikiSeen K). has_save w.journal) is)
  lives-renewed old middle new run (in_later added ended last later first lives start unsaved nothing now) is =
      let replayed = run_replayed middle.start middle.journal middle.state run in
      let then : replay (reopened last) middle.journal ≡ Some middle.state = ap (λ s. replay s middle.journal) (sym start) ∙ replayed in
      in_later added ended middle.state (later ++ middle.journal ∷ []) first (lives-push ended last middle.state later middle.journal lives then) (ap (λ (w : WikiSeen K). w.start.state) is) unsaved
      (none-push later middle.journal nothing now) (ap (λ (w : WikiSeen K). has_save w.journal) is)

  -- at the end
  pub has-lived : (old new : WikiSeen K) → IsRun new.start new.journal new.state → LivesOn old new → HasLived old new
  has-lived old new run (in_first added start journal unsaved) =
      let replayed = run_replayed new.start new.journal new.state run in
      record {
        added = added;
        ended = new.state;
        later = [];
        goes_on = ap (λ (s : Start). replay s.state (old.journal ++ added)) (sym start) ∙ (ap (replay new.start.state) (sym journal) ∙ replayed);
        lives = refl;
        adds_no_save = unsaved;
        saves_nothing = refl;
      }
  has-lived old new run (in_later added ended last later first lives start unsaved nothing now) =
      let replayed = run_replayed new.start new.journal new.state run in
      let then : replay (reopened last) new.journal ≡ Some new.state = ap (λ s. replay s new.journal) (sym start) ∙ replayed in
      record {
        added = added;
        ended = ended;
        later = later ++ new.journal ∷ [];
        goes_on = first;
        lives = lives-push ended last new.state later new.journal lives then;
        adds_no_save = unsaved;
        saves_nothing = none-push later new.journal nothing now;
      }
