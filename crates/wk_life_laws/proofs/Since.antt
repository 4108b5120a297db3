-- Soundness and good form, of events one after the other and over restarts.
use Rattle.std.proofs.Common.{◌≡◌, ℕ, ◌+◌, List, [], ◌∷◌, Some, subst}
use Rattle.std.proofs.lemmas.Option.{option_and_then_some}
use Rattle.wk_wiki_rules.specs.Steps.{fan_pages}
use Rattle.wk_wiki_rules.specs.States.{State}
use Rattle.wk_wiki_rules.specs.Events.{Event, step_by}
use Rattle.wk_wiki_rules.specs.Lives.{replay_from, replay, reopened, last_state, Lives}
use Rattle.wk_wiki_laws.specs.WellFormed.{IsWellFormed}
use Rattle.wk_wiki_laws.proofs.Always.{IsSound-step}
use Rattle.wk_wiki_laws.proofs.Formed.{IsWellFormed-step, IsWellFormed-reopened}
use Rattle.wk_wiki_laws.proofs.Sound.{IsSound-reopened}
use Rattle.wk_life_laws.specs.Sound.{IsSoundSince}

pub IsSoundSince-start : (start : State) → IsWellFormed start → IsSoundSince start start
IsSoundSince-start start formed = record { formed = formed; sound = λ sound. sound }

pub IsSoundSince-step : (most : ℕ) (start state next : State) (journal : ℕ) (event : Event) → IsSoundSince start state → step_by most state journal event ≡ Some next → IsSoundSince start next
IsSoundSince-step most start state next journal event since done = record {
  formed = IsWellFormed-step most state next journal event done since.formed;
  sound = λ sound. IsSound-step most state next journal event done (since.formed, since.sound sound);
}

pub IsSoundSince-reopened : (start state : State) → IsSoundSince start state → IsSoundSince start (reopened state)
IsSoundSince-reopened start state since = record {
  formed = IsWellFormed-reopened state since.formed;
  sound = λ sound. IsSound-reopened state (since.sound sound);
}

-- ---- journals and lives

since-from : (most : ℕ) (start state last : State) (journal : ℕ) (events : List Event) → IsSoundSince start state → replay_from most state journal events ≡ Some last → IsSoundSince start last
since-from most start state last journal [] since done = let same : state ≡ last = cc in subst (IsSoundSince start) same since
since-from most start state last journal (event ∷ events) since done =
    option_and_then_some (λ next. replay_from most next (journal + 1) events) (step_by most state journal event) last done
    (λ next stepped later. since-from most start next last (journal + 1) events (IsSoundSince-step most start state next journal event since stepped) later)

since-lives : (start state last : State) (journals : List (List Event)) → IsSoundSince start state → last_state state journals ≡ Some last → IsSoundSince start last
since-lives start state last [] since done = let same : state ≡ last = cc in subst (IsSoundSince start) same since
since-lives start state last (journal ∷ journals) since done =
    option_and_then_some (λ ended. last_state ended journals) (replay (reopened state) journal) last done
    (λ ended replayed later. since-lives start ended last journals (since-from fan_pages start (reopened state) ended 0 journal (IsSoundSince-reopened start state since) replayed) later)

pub IsSoundSince-replayed : (most : ℕ) (start last : State) (journal : ℕ) (events : List Event) → IsWellFormed start → replay_from most start journal events ≡ Some last → IsSoundSince start last
IsSoundSince-replayed most start last journal events formed = since-from most start start last journal events (IsSoundSince-start start formed)

pub IsSoundSince-lived : (start last : State) (journals : List (List Event)) → IsWellFormed start → Lives start journals last → IsSoundSince start last
IsSoundSince-lived start last journals formed = since-lives start start last journals (IsSoundSince-start start formed)
