-- How a script's run went, by how it ended (own).
use Rattle.std.specs.Prelude.{◌≡◌, ℕ, ◌^◌, ◌≤◌, List, length, Option, Some, None, Result, Ok, Err}
use Rattle.wk_table_rules.specs.Rows.{StoreTables}
use Rattle.wk_table_rules.specs.declared.BadStore.{BadStore as Bad}
use Rattle.wk_lines.specs.declared.stop.Stop.{Stop}
use Rattle.wk_lines.specs.declared.stop.Stop.TheVariants as stop
use Rattle.wk_core.specs.Seen.{WikiSeen}
use Rattle.wk_core.specs.declared.outcomes.LoadCause.{LoadCause}
use Rattle.wk_core.specs.declared.outcomes.LoadCause.TheVariants as cause
use Rattle.wk_script_runs.specs.Ends.{IsCutRun, IsWholeRun}
use Rattle.wk_script_runs.specs.Outside.{Outside}
use Rattle.wk_script.specs.declared.script.ScriptEnd.{ScriptEnd}
use Rattle.wk_script.specs.declared.script.ScriptEnd.TheVariants.{Done, ReadFault, WriteFault, StoreFault, BadStore, Bound, Memory}

-- the end of a run that stopped for this, or that didn't open the store anew
abbrev pub end_of_stop : Stop → ScriptEnd
end_of_stop stop.Memory = Memory
end_of_stop stop.ReadFault = ReadFault
end_of_stop stop.WriteFault = WriteFault
end_of_stop stop.Bound = Bound

abbrev pub end_of_cause : LoadCause → ScriptEnd
end_of_cause cause.StoreFault = StoreFault
end_of_cause (cause.BadStore bad) = BadStore bad
end_of_cause cause.Memory = Memory

-- so many faults of the store stand beside those that replies tell of
abbrev pub faults_at : ScriptEnd → ℕ
faults_at StoreFault = 1
faults_at Done = 0
faults_at ReadFault = 0
faults_at WriteFault = 0
faults_at (BadStore bad) = 0
faults_at Bound = 0
faults_at Memory = 0

-- a read of the input stopped it, or the bytes that were read
abbrev pub IsOfInputEnd : ScriptEnd → Type 0
IsOfInputEnd ReadFault = Unit {0}
IsOfInputEnd Bound = Unit {0}
IsOfInputEnd Done = ⊥
IsOfInputEnd WriteFault = ⊥
IsOfInputEnd StoreFault = ⊥
IsOfInputEnd (BadStore bad) = ⊥
IsOfInputEnd Memory = ⊥

-- the run was cut short
pub record IsCutTo {K : Type 0} (told : K → Option StoreTables) (faults : K → ℕ) (wiki : WikiSeen K) (before after : Outside) (end : ScriptEnd)
    (points : List ℕ) (handed : Result (WikiSeen K) K) : Type 0 where
  pub read : List ℕ
  pub run : IsCutRun told faults wiki before after points (faults_at end) handed (IsOfInputEnd end) read
  pub bound : end ≡ Bound → 2 ^ 40 ≤ length read

-- it went to the input's end, or was cut short
abbrev pub IsRunTo : {K : Type 0} → (K → Option StoreTables) → (K → ℕ) → WikiSeen K → Outside → Outside → ScriptEnd → List ℕ → Result (WikiSeen K) K → Type 0
IsRunTo told faults wiki before after Done points handed = IsWholeRun told faults wiki before after points handed
IsRunTo told faults wiki before after ReadFault points handed = IsCutTo told faults wiki before after ReadFault points handed
IsRunTo told faults wiki before after WriteFault points handed = IsCutTo told faults wiki before after WriteFault points handed
IsRunTo told faults wiki before after StoreFault points handed = IsCutTo told faults wiki before after StoreFault points handed
IsRunTo told faults wiki before after (BadStore bad) points handed = IsCutTo told faults wiki before after (BadStore bad) points handed
IsRunTo told faults wiki before after Bound points handed = IsCutTo told faults wiki before after Bound points handed
IsRunTo told faults wiki before after Memory points handed = IsCutTo told faults wiki before after Memory points handed

-- The keeper stands in the wiki's place where a restart's load was refused, and nowhere else: a store that failed or is bad
-- has no wiki, and a want of memory may be either's.
abbrev pub IsHandedAt : {W K : Type 0} → ScriptEnd → Result W K → Type 0
IsHandedAt StoreFault (Ok wiki) = ⊥
IsHandedAt (BadStore bad) (Ok wiki) = ⊥
IsHandedAt Done (Err keeper) = ⊥
IsHandedAt ReadFault (Err keeper) = ⊥
IsHandedAt WriteFault (Err keeper) = ⊥
IsHandedAt Bound (Err keeper) = ⊥
IsHandedAt _ _ = Unit {0}

-- the bad row, where that is the end
abbrev pub bad_of : ScriptEnd → Option Bad
bad_of (BadStore bad) = Some bad
bad_of Done = None
bad_of ReadFault = None
bad_of WriteFault = None
bad_of StoreFault = None
bad_of Bound = None
bad_of Memory = None
