-- How a step of a worker begins (own): a fan goes first, then a claim.
use Rattle.std.specs.Prelude.{◌≡◌, ◌⊎◌, ℕ, true, length, Option, Some, None, IsSome, IfSome, Ok, Err}
use Rattle.wk_table_rules.specs.Rows.{StoreTables}
use Rattle.wk_base.specs.Faults.{Rose}
use Rattle.wk_wiki_rules.specs.Jobs.{first_fan, first_queued, left}
use Rattle.wk_wiki_rules.specs.States.{State}
use Rattle.wk_wiki_rules.specs.Events.{Event}
use Rattle.wk_wiki_rules.specs.Claims.{ClaimOutcome}
use Rattle.wk_wiki_rules.specs.Entries.{closes}
use Rattle.wk_wiki_rules.specs.Room.{is_claim_refused, is_fan_refused}
use Rattle.wk_wiki_rules.specs.Starts.{Start}
use Rattle.wk_core.specs.Seen.{WikiSeen}
use Rattle.wk_core.specs.Steps.{HasMadeAtMost}
use Rattle.wk_core.specs.Tickets.{IsOut}
use Rattle.wk_core.specs.declared.outcomes.FanRefusal.TheVariants as fan
use Rattle.wk_turn.specs.Told.{Begun, Story}
use Rattle.wk_shared.specs.Answers.{ClaimTold, FanTold}
use Rattle.wk_shared.specs.Calls.{HasSeen, HoldsTicket, IsMadeAt, MayFail}
use Rattle.wk_readers.specs.declared.beginning.Beginning.{Beginning}
use Rattle.wk_readers.specs.declared.beginning.Beginning.TheVariants.{Idle, Fanned, Claimed, JournalFull, StoreFault, Memory}

-- ---- what is told of the state in which a step begins, behind a journal of this length, and of the event that it makes

-- nothing is to be done: no fan job stands and no refresh job is queued, and so many are claimed
pub record IdleTold (claimed : ℕ) (start : Start) (state : State) (point : ℕ) (event : Option Event) : Type 0 where
  pub no_fan : first_fan state.jobs ≡ None
  pub none_queued : first_queued state.jobs ≡ None
  pub claimed_is : claimed ≡ (left state.jobs).claimed
  pub made : event ≡ None

-- a claim, which comes behind all fans: no fan job stands
pub record ClaimedTold (ticket : ClaimOutcome) (start : Start) (state : State) (point : ℕ) (event : Option Event) : Type 0 where
  pub no_fan : first_fan state.jobs ≡ None
  pub claim : ClaimTold (Ok (Some ticket)) start state point event

-- there is no room: for a fan, where a fan job stands, or for a claim, where none does and a refresh job is queued
pub record FullTold (start : Start) (state : State) (point : ℕ) (event : Option Event) : Type 0 where
  pub full : (IsSome (first_fan state.jobs) × (is_fan_refused start.limits state point ≡ true))
      ⊎ ((first_fan state.jobs ≡ None) × IsSome (first_queued state.jobs) × (is_claim_refused start.limits state point ≡ true))
  pub made : event ≡ None

-- no event was made
abbrev pub NothingTold : Start → State → ℕ → Option Event → Type 0
NothingTold start state point event = event ≡ None

abbrev pub BeginningTold : Beginning → Start → State → ℕ → Option Event → Type 0
BeginningTold (Idle claimed) = IdleTold claimed
BeginningTold (Fanned fanned) = FanTold (Ok (Some fanned))
BeginningTold (Claimed ticket) = ClaimedTold ticket
BeginningTold JournalFull = FullTold
BeginningTold StoreFault = FanTold (Err fan.StoreFault)
BeginningTold Memory = NothingTold

-- ---- on the wiki that was taken

-- the ticket that was claimed is out
abbrev pub IsClaimOut : Beginning → State → Type 0
IsClaimOut (Claimed ticket) state = IsOut state ticket
IsClaimOut _ state = Unit {0}

pub record IsBegunOn {K : Type 0} (told : K → Option StoreTables) (faults : K → ℕ) (old new : WikiSeen K) (beginning : Beginning) : Type 0 where
  pub event : Option Event
  pub made : HasMadeAtMost told old new event
  -- it closes no earlier place
  pub opens : IfSome event (λ e. closes e ≡ None)
  pub call : BeginningTold beginning old.start old.state (length old.journal) event
  pub out : IsClaimOut beginning new.state
  pub fault : beginning ≡ StoreFault → Rose (faults old.keeper) (faults new.keeper)
  pub whole : old.start.whole ≡ true → faults new.keeper ≡ faults old.keeper

-- ---- behind the turn

-- the pass holds the ticket that was claimed
abbrev pub HoldsClaim : Start → Story Start Event → Beginning → Type 0
HoldsClaim start pass (Claimed ticket) = HoldsTicket start pass ticket
HoldsClaim start pass _ = Unit {0}

pub record HasBegun (shared : Begun Start) (old new : Story Start Event) (beginning : Beginning) : Type 0 where
  pub pass : HasSeen shared old new (length new.seen)
  pub call : IsMadeAt shared.start old new (BeginningTold beginning)
  pub ticket : HoldsClaim shared.start new beginning
  pub fault : beginning ≡ StoreFault → MayFail shared.start
