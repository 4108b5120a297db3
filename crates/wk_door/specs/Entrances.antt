-- Links that are taken of a door (own).
use Rattle.std.specs.Prelude.{◌≡◌, ◌⊎◌, ℕ, ◌+◌, ◌-◌, ◌≤◌, ◌==◌, Bool, true, false, Option, None, Some, IfSome, IsSome, option_map}
use Rattle.wk_base.specs.Faults.{Rose}
use Rattle.wk_door.specs.Told.{DoorCounts}
use Rattle.wk_door.specs.declared.entrance.Shut.{Shut}
use Rattle.wk_door.specs.declared.entrance.Shut.TheVariants.{Empty, Broken}

-- so many links more were given
abbrev pub after_giving : Option DoorCounts → ℕ → Option DoorCounts
after_giving before count = option_map (λ (c : DoorCounts). (c.0, (c.1.0 + count, c.1.1 - count))) before

-- so many were left, or more, where the door tells them
abbrev pub HasLeft : Option DoorCounts → ℕ → Type 0
HasLeft before count = IfSome before (λ (c : DoorCounts). count ≤ c.1.1)

-- the door tells that none is left
abbrev pub is_emptied : Option DoorCounts → Bool
is_emptied None = false
is_emptied (Some counts) = counts.1.1 == 0

-- A door that had told this, and had so many faults, has given so many links since, of at most so many; and why it gives no more,
-- where it is shut: none is left, or a call failed. Else no call has failed.
pub record IsEntered (before now : Option DoorCounts) (faults faults_now most count : ℕ) (shut : Option Shut) : Type 0 where
  pub within : count ≤ most
  pub given : now ≡ after_giving before count
  pub left : HasLeft before count
  pub never_falls : faults ≤ faults_now
  pub going : shut ≡ None → faults_now ≡ faults
  pub emptied : shut ≡ Some Empty → (faults_now ≡ faults) × (is_emptied now ≡ true)
  pub broken : shut ≡ Some Broken → Rose faults faults_now

-- no more links are taken: the door is shut, or as many were taken as are to be
abbrev pub IsOver : ℕ → ℕ → Option Shut → Type 0
IsOver most count shut = IsSome shut ⊎ (most ≤ count)
