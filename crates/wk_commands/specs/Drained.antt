-- What a drain does as a command (own).
use Rattle.std.specs.Prelude.{◌≡◌, ◌≢◌, ◌⊎◌, ℕ, ◌≤◌, Bool, true, List, Option}
use Rattle.wk_wiki_rules.specs.Soundness.{IsSound}
use Rattle.wk_tool_rules.specs.Checks.{jobs_text}
use Rattle.wk_core.specs.Seen.{WikiSeen}
use Rattle.wk_tools.specs.Drains.{CanBeFull, HasNoJob}
use Rattle.wk_tools.specs.declared.drains.DrainEnd.{DrainEnd}
use Rattle.wk_tools.specs.declared.drains.DrainEnd.TheVariants as end
use Rattle.wk_commands.specs.Lived.{HasLivedOn}
use Rattle.wk_commands.specs.Written.{HasWritten}
use Rattle.wk_commands.specs.declared.ends.CommandEnd.{CommandEnd}
use Rattle.wk_commands.specs.declared.ends.CommandEnd.TheVariants.{Done, Differs, DoorFault, Full, Memory, StoreFault, WriteFault}

-- how the command ends where its drain ended so, and what it writes
abbrev pub EndsJobs : DrainEnd → CommandEnd → Option (List ℕ) → Option (List ℕ) → Type 0
EndsJobs end.Done ended before after = HasWritten ended jobs_text before after × (ended ≢ WriteFault → ended ≡ Done)
EndsJobs end.JournalFull ended before after = (ended ≡ Full) × (after ≡ before)
EndsJobs end.StoreFault ended before after = (ended ≡ StoreFault) × (after ≡ before)
EndsJobs end.Memory ended before after = (ended ≡ Memory) × (after ≡ before)

-- The jobs of a wiki that was just opened were done, to the end or until the drain ended before it: nothing was saved.
pub record IsDrained {K : Type 0} (is_whole : K → Bool) (faults : K → ℕ) (old new : WikiSeen K) (before after : Option (List ℕ)) (end : CommandEnd) : Type 0 where
  pub lived : HasLivedOn old.state new.state
  pub history : new.state.history ≡ old.state.history
  pub sound : IsSound old.state → IsSound new.state
  -- what was written tells that no job is left, and nothing is written before that is so
  pub none_left : (end ≡ Done) ⊎ (end ≡ WriteFault) → HasNoJob new.state
  pub written : HasWritten end jobs_text before after
  pub full : end ≡ Full → CanBeFull old
  pub fault : end ≡ StoreFault → 1 ≤ faults new.keeper
  pub compares_nothing : end ≢ Differs
  pub no_door : end ≢ DoorFault
  pub tells : new.start.tells ≡ old.start.tells
  pub stays_whole : is_whole new.keeper ≡ is_whole old.keeper
  pub whole_count : is_whole old.keeper ≡ true → faults new.keeper ≡ faults old.keeper
