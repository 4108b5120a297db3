-- What a command does over the store of a keeper (own).
use Rattle.std.specs.Prelude.{◌≡◌, ◌≤◌, ℕ, Bool, true, List, Option, None, Some, Result, Ok, Err, IfSome, is_some}
use Rattle.wk_base.specs.Faults.{Rose}
use Rattle.wk_page_rules.specs.Verdict.{MostHeld, full_limits}
use Rattle.wk_table_rules.specs.GoodStore.{first_broken}
use Rattle.wk_table_rules.specs.Rows.{StoreTables}
use Rattle.wk_wiki_rules.specs.Lives.{opened}
use Rattle.wk_wiki_rules.specs.Soundness.{IsSound}
use Rattle.wk_tool_rules.specs.Checks.{check_text}
use Rattle.wk_tool_rules.specs.Generator.{generated}
use Rattle.wk_core.specs.Loads.{HasOpened, bad_store_of}
use Rattle.wk_core.specs.Seen.{IsTold, WikiSeen}
use Rattle.wk_core.specs.Steps.{KeeperGoesOn}
use Rattle.wk_core.specs.declared.outcomes.LoadCause.{LoadCause}
use Rattle.wk_core.specs.declared.outcomes.LoadCause.TheVariants as cause
use Rattle.wk_commands.specs.Checked.{IsCompared}
use Rattle.wk_commands.specs.Drained.{IsDrained}
use Rattle.wk_commands.specs.Generated.{IsGenerated}
use Rattle.wk_door.specs.Told.{DoorTold}
use Rattle.wk_commands.specs.Lived.{HasLivedOn}
use Rattle.wk_commands.specs.Fed.{HasServedSo}
use Rattle.wk_commands.specs.Served.{GivesAtMost, IsServedFrom}
use Rattle.wk_commands.specs.declared.ends.CommandEnd.{CommandEnd}
use Rattle.wk_commands.specs.declared.works.Work.{Work}
use Rattle.wk_commands.specs.declared.works.Work.TheVariants.{Check, Jobs, Generate}

-- what was asked was done of a wiki that was just opened
abbrev pub IsWorked : {K : Type 0} → (K → Bool) → (K → ℕ) → Work → WikiSeen K → WikiSeen K → Option (List ℕ) → Option (List ℕ) → Option (List ℕ) → Option (List ℕ) → CommandEnd → Type 0
IsWorked is_whole faults Check old new left later before after end = (new ≡ old) × IsCompared old.state (check_text old.state) before after end
IsWorked is_whole faults Jobs old new left later before after end = IsDrained is_whole faults old new before after end
IsWorked is_whole faults (Generate pages number) old new left later before after end =
    IsGenerated is_whole faults (generated pages number) old new left later before after end

abbrev pub limits_with_journal : ℕ → MostHeld
limits_with_journal journal = record full_limits { journal = journal }

-- The store wasn't opened, for this cause: no moment was taken and nothing written, and the keeper has its tables.
pub record IsNotOpened {K : Type 0} (told : K → Option StoreTables) (faults : K → ℕ) (is_whole : K → Bool) (keeper left : K) (moments later before after : Option (List ℕ)) (why : LoadCause) : Type 0 where
  pub no_moment : later ≡ moments
  pub nothing_written : after ≡ before
  pub tables : told left ≡ told keeper
  pub broken : IfSome (bad_store_of why) (λ row. IfSome (told keeper) (λ tables. first_broken tables ≡ Some row))
  pub fault : why ≡ cause.StoreFault → Rose (faults keeper) (faults left)
  pub never_falls : faults keeper ≤ faults left
  pub whole : is_whole keeper ≡ true → faults left ≡ faults keeper
  pub stays_whole : is_whole left ≡ is_whole keeper

-- A wiki was opened over the keeper's tables, and what was asked was done of it. The keeper has the tables of its last state, tells
-- them where it did, is whole where it was, and then its count of faults stays; behind a comparison that goes on besides.
pub record IsDoneOver {K : Type 0} (told : K → Option StoreTables) (faults : K → ℕ) (is_whole : K → Bool) (work : Work) (journal : ℕ) (keeper left : K)
    (moments later before after : Option (List ℕ)) (end : CommandEnd) : Type 0 where
  pub first : WikiSeen K
  pub last : WikiSeen K
  pub opened_is : HasOpened first (limits_with_journal journal)
  pub state : IfSome (told keeper) (λ tables. (first_broken tables ≡ None) × (first.state ≡ opened tables))
  pub whole : first.start.whole ≡ is_whole keeper
  pub faults_at_first : faults first.keeper ≡ faults keeper
  pub worked : IsWorked is_whole faults work first last moments later before after end
  pub lived : HasLivedOn first.state last.state
  pub sound : IsSound first.state → IsSound last.state
  pub keeper_is : left ≡ last.keeper
  pub tables : IsTold told last.state left
  pub tells : is_some (told left) ≡ is_some (told keeper)
  pub stays_whole : is_whole left ≡ is_whole keeper
  pub whole_count : is_whole keeper ≡ true → faults left ≡ faults keeper
  pub checked : work ≡ Check → KeeperGoesOn told faults is_whole keeper left

pub data IsWorkedOn {K : Type 0} (told : K → Option StoreTables) (faults : K → ℕ) (is_whole : K → Bool) (work : Work) (journal : ℕ) (keeper left : K)
    (moments later before after : Option (List ℕ)) (end : Result CommandEnd LoadCause) : Type 0 where
  not_opened : (why : LoadCause) → end ≡ Err why → IsNotOpened told faults is_whole keeper left moments later before after why →
      IsWorkedOn told faults is_whole work journal keeper left moments later before after end
  done : (how : CommandEnd) → end ≡ Ok how → IsDoneOver told faults is_whole work journal keeper left moments later before after how →
      IsWorkedOn told faults is_whole work journal keeper left moments later before after end

-- ---- serving

-- A wiki was opened over the keeper's tables, and served at an address, of whose door at most so many links were taken. The keeper
-- has the tables of its last state, tells them where it did, is whole where it was, and then its count of faults stays.
pub record IsServedOver {K L : Type 0} (told : K → Option StoreTables) (faults : K → ℕ) (is_whole : K → Bool) (feed : Bool) (address : List ℕ) (most journal : ℕ) (keeper left : K)
    (door door_later : Option (DoorTold L)) (door_faults door_faults_later : ℕ) (before after : Option (List ℕ)) (end : CommandEnd) : Type 0 where
  pub first : WikiSeen K
  pub last : WikiSeen K
  pub opened_is : HasOpened first (limits_with_journal journal)
  pub state : IfSome (told keeper) (λ tables. (first_broken tables ≡ None) × (first.state ≡ opened tables))
  pub whole : first.start.whole ≡ is_whole keeper
  pub served : HasServedSo feed address most door door_later door_faults door_faults_later before after first.state last.journal end
  pub links : GivesAtMost address most door door_later
  pub from : IsServedFrom first last
  pub keeper_is : left ≡ last.keeper
  pub tables : IsTold told last.state left
  pub tells : is_some (told left) ≡ is_some (told keeper)
  pub stays_whole : is_whole left ≡ is_whole keeper
  pub whole_count : is_whole keeper ≡ true → faults left ≡ faults keeper

pub data IsServedOn {K L : Type 0} (told : K → Option StoreTables) (faults : K → ℕ) (is_whole : K → Bool) (feed : Bool) (address : List ℕ) (most journal : ℕ) (keeper left : K)
    (door door_later : Option (DoorTold L)) (door_faults door_faults_later : ℕ) (before after : Option (List ℕ)) (end : Result CommandEnd LoadCause) : Type 0 where
  -- nothing was asked of the door
  not_loaded : (why : LoadCause) → end ≡ Err why → door_later ≡ door → door_faults_later ≡ door_faults →
      IsNotOpened told faults is_whole keeper left None None before after why →
      IsServedOn told faults is_whole feed address most journal keeper left door door_later door_faults door_faults_later before after end
  served_over : (how : CommandEnd) → end ≡ Ok how →
      IsServedOver told faults is_whole feed address most journal keeper left door door_later door_faults door_faults_later before after how →
      IsServedOn told faults is_whole feed address most journal keeper left door door_later door_faults door_faults_later before after end
