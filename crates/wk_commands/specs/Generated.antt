-- What the generator does as a command (own).
use Rattle.std.specs.Prelude.{◌≡◌, ◌≢◌, ◌⊎◌, ℕ, ◌≤◌, Bool, true, List, [], Option}
use Rattle.std.specs.Io.KnownBytes.{Keeps}
use Rattle.wk_base.specs.Faults.{Rose}
use Rattle.wk_page_rules.specs.Verdict.{EditAsked}
use Rattle.wk_wiki_rules.specs.States.{State}
use Rattle.wk_tool_rules.specs.Checks.{differing, gen_text}
use Rattle.wk_core.specs.Seen.{WikiSeen}
use Rattle.wk_revs.specs.declared.verdict.SaveRefusal.{SaveRefusal}
use Rattle.wk_revs.specs.declared.verdict.SaveRefusal.TheVariants as refusal
use Rattle.wk_tools.specs.Drains.{CanBeFull, HasNoJob}
use Rattle.wk_tools.specs.Lived.{HasLived}
use Rattle.wk_tools.specs.Saves.{HasSaved, IsRefusedAt}
use Rattle.wk_tools.specs.declared.drains.DrainEnd.{DrainEnd}
use Rattle.wk_tools.specs.declared.drains.DrainEnd.TheVariants as end
use Rattle.wk_commands.specs.Checked.{IsCompared}
use Rattle.wk_commands.specs.Written.{HasWritten}
use Rattle.wk_commands.specs.declared.ends.CommandEnd.{CommandEnd}
use Rattle.wk_commands.specs.declared.ends.CommandEnd.TheVariants.{Done, Differs, DoorFault, Full, StoreFault, WriteFault, Memory}

-- how the command ends where a save is refused
abbrev pub end_of_refusal : SaveRefusal → CommandEnd
end_of_refusal refusal.StoreFault = StoreFault
end_of_refusal refusal.Memory = Memory
end_of_refusal _ = Full

-- how the command ends where its drain left this state and ended so, and what it writes
abbrev pub EndsDrain : State → DrainEnd → CommandEnd → Option (List ℕ) → Option (List ℕ) → Type 0
EndsDrain state end.Done ended before after = IsCompared state (gen_text state) before after ended
EndsDrain state end.JournalFull ended before after = (ended ≡ Full) × (after ≡ before)
EndsDrain state end.StoreFault ended before after = (ended ≡ StoreFault) × (after ≡ before)
EndsDrain state end.Memory ended before after = (ended ≡ Memory) × (after ≡ before)

-- The jobs of a wiki were done, to the end or until the drain ended before it, and then its pages compared: the counts that
-- were written are those of the state that is left.
pub record IsSettled {K : Type 0} (is_whole : K → Bool) (faults : K → ℕ) (old new : WikiSeen K) (before after : Option (List ℕ)) (end : CommandEnd) : Type 0 where
  pub lived : HasLived old new
  pub history : new.state.history ≡ old.state.history
  pub none_left : (end ≡ Done) ⊎ ((end ≡ Differs) ⊎ (end ≡ WriteFault)) → HasNoJob new.state
  pub written : HasWritten end (gen_text new.state) before after
  pub same : end ≡ Done → differing new.state ≡ []
  pub differs : end ≡ Differs → differing new.state ≢ []
  pub full : end ≡ Full → CanBeFull old
  pub fault : end ≡ StoreFault → 1 ≤ faults new.keeper
  pub no_door : end ≢ DoorFault
  pub tells : new.start.tells ≡ old.start.tells
  pub stays_whole : is_whole new.keeper ≡ is_whole old.keeper
  pub whole_count : is_whole old.keeper ≡ true → faults new.keeper ≡ faults old.keeper

-- These edits were saved, and the wiki settled; or the saves ended at one that was refused, and nothing else was done: where
-- that is since the store failed, its count of faults rose in the saves.
pub data IsGenerated {K : Type 0} (is_whole : K → Bool) (faults : K → ℕ) (edits : List EditAsked) (old new : WikiSeen K) (left later before after : Option (List ℕ)) (end : CommandEnd) : Type 0 where
  settled : (middle : WikiSeen K) → HasSaved old middle edits left later → IsSettled is_whole faults middle new before after end →
      IsGenerated is_whole faults edits old new left later before after end
  refused : (why : SaveRefusal) → IsRefusedAt old new edits left why → end ≡ end_of_refusal why → Keeps before after →
      (why ≡ refusal.StoreFault → Rose (faults old.keeper) (faults new.keeper)) →
      IsGenerated is_whole faults edits old new left later before after end
