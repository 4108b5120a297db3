-- A wiki is sound after each event of each of its lives.
use Rattle.std.proofs.Common.{◌≡◌, ℕ, ◌+◌, List, [], ◌∷◌, Some, subst}
use Rattle.std.proofs.lemmas.Option.{option_and_then_some}
use Rattle.wk_table_rules.specs.Rows.{StoreTables}
use Rattle.wk_wiki_rules.specs.Steps.{fan_pages}
use Rattle.wk_wiki_rules.specs.States.{State, no_state}
use Rattle.wk_wiki_rules.specs.Events.{Event, Save, Claim, Done, Back, Fan, step_by}
use Rattle.wk_wiki_rules.specs.Lives.{replay_from, replay_by, replay, reopened, opened, last_state, Lives, LivesOfStore}
use Rattle.wk_wiki_rules.specs.Soundness.{IsSound}
use Rattle.wk_wiki_laws.specs.WellFormed.{IsWellFormed}
use Rattle.wk_wiki_laws.proofs.Sound.{IsSound-none, IsSound-claimed, IsSound-given_back, IsSound-reopened}
use Rattle.wk_wiki_laws.proofs.Refreshed.{IsSound-done}
use Rattle.wk_wiki_laws.proofs.Fanned.{IsSound-fanned}
use Rattle.wk_wiki_laws.proofs.Saved.{IsSound-saved}
use Rattle.wk_wiki_laws.proofs.Formed.{IsWellFormed-none, IsWellFormed-step, IsWellFormed-reopened}

abbrev pub IsBoth : State → Type 0
IsBoth state = IsWellFormed state × IsSound state

pub IsSound-step : (most : ℕ) (state next : State) (journal : ℕ) (event : Event) → step_by most state journal event ≡ Some next → IsBoth state → IsSound next
IsSound-step most state next journal (Save title text moment) done both = IsSound-saved most state next journal title text moment both.0 done both.1
IsSound-step most state next journal Claim done both = IsSound-claimed most state next journal done both.1
IsSound-step most state next journal (Done ticket) done both = IsSound-done most state next journal ticket both.0 done both.1
IsSound-step most state next journal (Back ticket) done both = IsSound-given_back most state next journal ticket done both.1
IsSound-step most state next journal Fan done both = IsSound-fanned most state next journal done both.1

both-from : (most : ℕ) (state last : State) (journal : ℕ) (events : List Event) → IsBoth state → replay_from most state journal events ≡ Some last → IsBoth last
both-from most state last journal [] both done = let same : state ≡ last = cc in subst IsBoth same both
both-from most state last journal (event ∷ events) both done =
    option_and_then_some (λ next. replay_from most next (journal + 1) events) (step_by most state journal event) last done
    (λ next stepped later. both-from most next last (journal + 1) events
    (IsWellFormed-step most state next journal event stepped both.0, IsSound-step most state next journal event stepped both) later)

pub IsSound-replayed : (most : ℕ) (start last : State) (events : List Event) → IsWellFormed start → IsSound start → replay_by most start events ≡ Some last → IsSound last
IsSound-replayed most start last events formed sound done = (both-from most start last 0 events (formed, sound) done).1

both-lives : (start last : State) (journals : List (List Event)) → IsBoth start → last_state start journals ≡ Some last → IsBoth last
both-lives start last [] both done = let same : start ≡ last = cc in subst IsBoth same both
both-lives start last (journal ∷ journals) both done =
    option_and_then_some (λ ended. last_state ended journals) (replay (reopened start) journal) last done
    (λ ended replayed later. both-lives ended last journals
    (both-from fan_pages (reopened start) ended 0 journal (IsWellFormed-reopened start both.0, IsSound-reopened start both.1) replayed) later)

pub IsSound-lives : (journals : List (List Event)) (last : State) → Lives no_state journals last → IsSound last
IsSound-lives journals last lives = (both-lives no_state last journals (IsWellFormed-none, IsSound-none) lives).1

pub IsSound-lives_of_store : (tables : StoreTables) (journals : List (List Event)) (last : State) → IsWellFormed (opened tables) → IsSound (opened tables) → LivesOfStore tables journals last → IsSound last
IsSound-lives_of_store tables [] last formed sound lives = let same : opened tables ≡ last = cc in subst IsSound same sound
IsSound-lives_of_store tables (journal ∷ journals) last formed sound lives =
    option_and_then_some (λ ended. last_state ended journals) (replay (opened tables) journal) last lives
    (λ ended replayed later. (both-lives ended last journals (both-from fan_pages (opened tables) ended 0 journal (formed, sound) replayed) later).1)
