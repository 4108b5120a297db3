-- What a refresh step behind a message did (own): a fan goes first, then a claim and what becomes of it.
use Rattle.std.specs.Prelude.{◌≡◌, ◌≢◌, ◌⊎◌, ℕ, ◌+◌, ◌<◌, ◌≤◌, true, List, [], ◌∷◌, length, slice_get, Some, None, IsSome}
use Rattle.wk_text_rules.specs.Titles.{PageTitle}
use Rattle.wk_view_rules.specs.Worlds.{answer_in, mark}
use Rattle.wk_view_rules.specs.declared.Kind.{Kind}
use Rattle.wk_wiki_rules.specs.Jobs.{first_fan, first_queued}
use Rattle.wk_wiki_rules.specs.States.{State, world_of}
use Rattle.wk_wiki_rules.specs.Events.{Event, Back as BackEvent, Claim, Done as DoneEvent, Fan}
use Rattle.wk_wiki_rules.specs.Passes.{PassSeen, state_seen}
use Rattle.wk_wiki_rules.specs.Room.{is_claim_refused, is_fan_refused}
use Rattle.wk_http.specs.declared.report.Refresh.{Refresh}
use Rattle.wk_http.specs.declared.report.Refresh.TheVariants.{Idle, Fanned, Done, Back, JournalFull, StoreFault, Memory}
use Rattle.wk_session_rules.specs.Points.{IsStateAt}

-- the pass's last entry, which stands at this place, is this event
pub record IsLastEntry (old new : PassSeen) (at : ℕ) (event : Event) : Type 0 where
  pub later : length old.journal ≤ at
  pub last : length new.journal ≡ at + 1
  pub entry : slice_get new.journal at ≡ Some event

-- a claim at a place, and by this event its ticket came in with the last entry
pub record CameIn (old new : PassSeen) (claim at : ℕ) (event : Event) : Type 0 where
  pub later : length old.journal ≤ claim
  pub claimed : slice_get new.journal claim ≡ Some Claim
  pub in_order : claim < at
  pub last : IsLastEntry old new at event

-- at some point from this one on a title and a kind had another mark than before the last entry
pub record HasChanged (pass : PassSeen) (from at : ℕ) : Type 0 where
  pub title : PageTitle
  pub kind : Kind
  pub point : ℕ
  pub since : from ≤ point
  pub before : point ≤ at
  pub was : State
  pub stood : state_seen pass point ≡ Some was
  pub is : State
  pub stands : state_seen pass at ≡ Some is
  pub differs : mark (answer_in (world_of was) title kind) ≢ mark (answer_in (world_of is) title kind)

-- the journal has no room for the first fan job; or no fan job stands, and it has none for a claim of the first refresh job
abbrev pub IsFull : PassSeen → State → ℕ → Type 0
IsFull pass state point =
    (IsSome (first_fan state.jobs) × (is_fan_refused pass.start.limits state point ≡ true))
    ⊎ ((first_fan state.jobs ≡ None) × IsSome (first_queued state.jobs) × (is_claim_refused pass.start.limits state point ≡ true))

-- What the step is told to have done, and the places of the entries that it made. `fails` holds where the store may fail.
pub data IsStep (fails : Type 0) (old new : PassSeen) : Refresh → List ℕ → Type 0 where
  idle : {state : State} → IsStateAt old new (length new.journal) state →
      first_queued state.jobs ≡ None → first_fan state.jobs ≡ None → IsStep fails old new Idle []
  fanned : {at : ℕ} → IsLastEntry old new at Fan → IsStep fails old new Fanned (at ∷ [])
  done : {claim at : ℕ} → CameIn old new claim at (DoneEvent (claim + 1)) → IsStep fails old new Done (claim ∷ at ∷ [])
  back : {claim at : ℕ} → CameIn old new claim at (BackEvent (claim + 1)) → HasChanged new (claim + 1) at →
      IsStep fails old new Back (claim ∷ at ∷ [])
  full : {state : State} → IsStateAt old new (length new.journal) state → IsFull new state (length new.journal) →
      IsStep fails old new JournalFull []
  fan_failed : fails → IsStep fails old new StoreFault []
  refresh_failed : {claim at : ℕ} → fails → CameIn old new claim at (BackEvent (claim + 1)) → IsStep fails old new StoreFault (claim ∷ at ∷ [])
  no_memory : IsStep fails old new Memory []
  no_memory_behind_claim : {claim at : ℕ} → CameIn old new claim at (BackEvent (claim + 1)) → IsStep fails old new Memory (claim ∷ at ∷ [])
