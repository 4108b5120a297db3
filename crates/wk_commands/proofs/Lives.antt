-- Lives of a wiki that was opened.
use Rattle.std.proofs.Common.{◌≡◌, List, [], ◌∷◌, ◌++◌, length, Some, refl, sym, ap, ◌∙◌, append_assoc, subst}
use Rattle.std.specs.Prelude.{option_and_then}
use Rattle.wk_wiki_rules.specs.Steps.{fan_pages}
use Rattle.wk_wiki_rules.specs.States.{State}
use Rattle.wk_wiki_rules.specs.Events.{Event}
use Rattle.wk_wiki_rules.specs.Lives.{LivesOfStore, last_state, opened, replay, replay_from}
use Rattle.wk_wiki_rules.specs.Soundness.{IsSound}
use Rattle.wk_wiki_rules.specs.Tables.{tables_of}
use Rattle.wk_wiki_laws.specs.WellFormed.{IsWellFormed}
use Rattle.wk_wiki_laws.proofs.Always.{IsSound-lives_of_store}
use Rattle.wk_wiki_rules.specs.Starts.{Start}
use Rattle.wk_life_laws.specs.Runs.{IsRun}
use Rattle.wk_life_laws.proofs.RunFacts.{run_kept, run_opened}
use Rattle.wk_core.specs.Loads.{HasOpened}
use Rattle.wk_core.specs.Seen.{WikiSeen}
use Rattle.wk_tools.specs.Lived.{HasLived, HasMadeEach}
use Rattle.wk_commands.specs.Lived.{HasLivedOn, LivesOn}

-- lives from a state that a store with its tables is opened as are lives of that store
lives-of-store : (state last : State) (journals : List (List Event)) → opened (tables_of state) ≡ state → LivesOn state journals last → LivesOfStore (tables_of state) journals last
lives-of-store state last [] is same = ap (λ s. Some s) (is ∙ sym same)
lives-of-store state last (journal ∷ later) is lives =
    let first : replay (opened (tables_of state)) journal ≡ Some lives.0 = ap (λ s. replay s journal) is ∙ lives.1 in
    ap (option_and_then (λ ended. last_state ended later)) first ∙ lives.2

module _ {K : Type 0} where
  module _ (old : WikiSeen K) (opening : HasOpened old old.start.limits) where
    pub sound-on : (last : State) → IsRun old.start old.journal old.state → HasLivedOn old.state last → IsSound old.state → IsSound last
    sound-on last run lived sound =
        let is : opened (tables_of old.state) ≡ old.state = run_opened old.start old.journal old.state run ∙ opening.queued in
        let formed = (run_kept old.start old.journal old.state run).formed in
        IsSound-lives_of_store (tables_of old.state) lived.journals last (subst IsWellFormed (sym is) formed) (subst IsSound (sym is) sound)
        (lives-of-store old.state last lived.journals is lived.lives)

    -- events behind the opening are the first life's
    from-start : (events : List Event) → replay old.state events ≡ replay old.start.state (old.journal ++ events)
    from-start events =
        ap (λ s. replay s events) (sym opening.start) ∙ ap (λ (j : List Event). replay old.start.state (j ++ events)) (sym opening.journal)

    pub lived-on : (new : WikiSeen K) → HasLived old new → HasLivedOn old.state new.state
    lived-on new lived = record { journals = lived.added ∷ lived.later; lives = (lived.ended, from-start lived.added ∙ lived.goes_on, lived.lives) }

    pub made-on : (new : WikiSeen K) (events : List Event) → HasMadeEach old new events → HasLivedOn old.state new.state
    made-on new events made =
        let none : 0 ≡ length old.journal = ap length (sym opening.journal) in
        record { journals = events ∷ []; lives = (new.state, ap (λ n. replay_from fan_pages old.state n events) none ∙ made.replayed, refl) }

    pub made-then-lived : (middle new : WikiSeen K) (events : List Event) → HasMadeEach old middle events → HasLived middle new → HasLivedOn old.state new.state
    made-then-lived middle new events made lived =
        let joined : old.journal ++ (events ++ lived.added) ≡ middle.journal ++ lived.added = sym (append_assoc old.journal events lived.added) ∙ ap (λ (j : List Event). j ++ lived.added) (sym made.journal) in
        let first : replay old.state (events ++ lived.added) ≡ Some lived.ended =
        from-start (events ++ lived.added)
        ∙ (ap (replay old.start.state) joined ∙ (ap (λ (s : Start). replay s.state (middle.journal ++ lived.added)) (sym made.start) ∙ lived.goes_on))
        in
        record { journals = (events ++ lived.added) ∷ lived.later; lives = (lived.ended, first, lived.lives) }

    pub same-on : HasLivedOn old.state old.state
    same-on = record { journals = []; lives = refl }
