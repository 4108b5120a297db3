-- Workers that drain a shared wiki (own). A point is the length of a journal.
use Rattle.std.specs.Prelude.{◌≡◌, ◌⊎◌, ℕ, ◌≤◌, Contains, List, [], ◌∷◌, length, map, Some, Result, Ok, Err}
use Rattle.std.specs.List.{AllZip}
use mathlib.Core.List.{IsPrefix}
use Rattle.wk_wiki_rules.specs.States.{State}
use Rattle.wk_wiki_rules.specs.Events.{Event}
use Rattle.wk_wiki_rules.specs.Starts.{Start}
use Rattle.wk_turn.specs.Told.{Begun, Story}
pub use Rattle.wk_shared.specs.Calls.{IsFree}
use Rattle.wk_shared.specs.Calls.{MayFail, state_by}
use Rattle.wk_readers.specs.Refreshes.{RefreshTold}
use Rattle.wk_readers.specs.Worked.{HasWorked}
use Rattle.wk_readers.specs.declared.outcome.Refreshed.{Refreshed}
use Rattle.wk_readers.specs.declared.outcome.Refreshed.TheVariants as refreshed
use Rattle.wk_refresh.specs.declared.refusal.DrainRefusal.{DrainRefusal}
use Rattle.wk_refresh.specs.declared.refusal.DrainRefusal.TheVariants.{JournalFull, StoreFault, Memory}

-- ---- one worker

-- how a worker's steps end
abbrev pub End : Type 0
End = Result (Unit {0}) DrainRefusal

-- what its last step answers then: nothing is to be done and nobody has a job, or a refusal
abbrev pub last_answer : End → Refreshed
last_answer (Ok done) = refreshed.Idle 0
last_answer (Err JournalFull) = refreshed.JournalFull
last_answer (Err StoreFault) = refreshed.StoreFault
last_answer (Err Memory) = refreshed.Memory

-- a worker's pass behind its steps, and how they ended
pub record WorkEnd : Type 0 where
  pub pass : Story Start Event
  pub end : End

-- A worker's steps: what they leave of its pass, and what its last one tells. The store fails only where the keeper may.
pub record HasEnded (shared : Begun Start) (old new : Story Start Event) (end : End) : Type 0 where
  pub pass : HasWorked shared old new
  -- the pass before its last step
  pub before : Story Start Event
  pub later : IsPrefix old.seen before.seen
  pub last : RefreshTold shared before new (last_answer end)
  pub fault : end ≡ Err StoreFault → MayFail shared.start

-- ---- all workers

-- the first of two ends that is a refusal
abbrev pub end_first : End → End → End
end_first (Ok done) end = end
end_first (Err refusal) end = Err refusal

-- the first refusal, if there is one
abbrev pub first_refusal : List End → End
first_refusal [] = Ok tt
first_refusal (end ∷ ends) = end_first end (first_refusal ends)

-- Each worker's steps ended, and the answer is the first refusal that one met, in the order of the workers.
pub record HasDrained (shared : Begun Start) (old new : List (Story Start Event)) (answer : End) : Type 0 where
  pub ends : List WorkEnd
  pub passes : map (λ w. w.pass) ends ≡ new
  pub each : AllZip (λ pass w. HasEnded shared pass w.pass w.end) old ends
  pub answered : answer ≡ first_refusal (map (λ w. w.end) ends)

-- or memory ran out before anything was done
abbrev pub MayDrain : Begun Start → List (Story Start Event) → List (Story Start Event) → End → Type 0
MayDrain shared old new answer = HasDrained shared old new answer ⊎ ((new ≡ old) × (answer ≡ Err Memory))

-- some pass has seen a point at which no job was queued, claimed or fanning
pub record IsLeftEmpty (start : Start) (passes : List (Story Start Event)) : Type 0 where
  pub pass : Story Start Event
  pub among : Contains passes pass
  pub point : ℕ
  pub within : point ≤ length pass.seen
  pub state : State
  pub stands : state_by start pass point ≡ Some state
  pub no_refresh : state.jobs.refreshes ≡ []
  pub no_fan : state.jobs.fans ≡ []
