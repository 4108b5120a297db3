-- What stands behind lines of a script, and behind all of them (own).
use Rattle.std.specs.Prelude.{◌≡◌, ℕ, List, [], ◌∷◌, length, Option, Some, None, Result, Ok, Err}
use Rattle.std.specs.Io.KnownBytes.{Appends}
use Rattle.wk_base.specs.Writing.{AppendsPrefix}
use Rattle.wk_table_rules.specs.Rows.{StoreTables}
use Rattle.wk_answer_rules.specs.Values.{reply_beside}
use Rattle.wk_script_rules.specs.Replies.{restart_entries}
use Rattle.wk_script_rules.specs.Runs.{reply_text}
use Rattle.wk_script_rules.specs.ScriptLines.{restart_line, script_line}
use Rattle.wk_lines.specs.Stop.{IsWriting}
use Rattle.wk_lines.specs.declared.stop.Stop.{Stop}
use Rattle.wk_core.specs.Seen.{IsTold, WikiSeen}
use Rattle.wk_script_rules.specs.WikiScripts.{TicketDraft, all_given_back}
use Rattle.wk_script_steps.specs.Seen.{script_of}
use Rattle.wk_script_runs.specs.Ends.{HasLife}
use Rattle.wk_script_steps.specs.Reopened.{IsLost}
use Rattle.wk_script_runs.specs.Outside.{Outside}
use Rattle.wk_script_runs.specs.Served.{Writes}
use Rattle.wk_script_runs.specs.Serving.{WritesFirst}
use Rattle.wk_script_runs.specs.Through.{IsThrough, LosesStore, StopsWithin}
use Rattle.wk_script.specs.declared.run.Next.{Next}
use Rattle.wk_script.specs.declared.run.Next.TheVariants.{Goes, Stops, Lost}
use Rattle.wk_script.specs.declared.run.Run.{Run}
use Rattle.wk_script.specs.declared.run.Told.{Told}
use Rattle.wk_script.specs.declared.run.Told.TheVariants as line

-- the run stopped for this
abbrev pub stop_of : {K : Type 0} → Next K → Option Stop
stop_of (Goes run) = None
stop_of (Stops run stop) = Some stop
stop_of (Lost keeper points why) = None

-- the same, at a line that the run was lent to
abbrev pub stop_at : Told → Option Stop
stop_at line.Goes = None
stop_at (line.Stops stop) = Some stop
stop_at line.Restarts = None

-- The lines were answered, or the first of them; or they are a restart, and nothing happened.
abbrev pub IsServed : {K : Type 0} → (K → Option StoreTables) → (K → ℕ) → Run K → Run K → List (Option (List ℕ)) → Option (List ℕ) → Option (List ℕ) → Option (List ℕ) → Option (List ℕ) → Told → Type 0
IsServed told faults old new lines left later taken more line.Goes =
    Writes told faults old.wiki new.wiki old.tickets.items new.tickets.items lines left later taken more old.points.items new.points.items
IsServed told faults old new lines left later taken more (line.Stops stop) =
    WritesFirst told faults old.wiki new.wiki old.tickets.items new.tickets.items lines left later taken more old.points.items new.points.items × IsWriting stop
IsServed told faults old new lines left later taken more line.Restarts =
    (new ≡ old) × (left ≡ later) × (taken ≡ more) × ((raw : Option (List ℕ)) × (lines ≡ raw ∷ []) × (script_line raw ≡ restart_line))

-- The lines were answered, or the first of them; or the store wasn't opened anew, and nothing else happened.
abbrev pub IsBehind : {K : Type 0} → (K → Option StoreTables) → (K → ℕ) → Run K → List (Option (List ℕ)) → Option (List ℕ) → Option (List ℕ) → Option (List ℕ) → Option (List ℕ) → Next K → Type 0
IsBehind told faults old lines left later taken more (Goes run) =
    Writes told faults old.wiki run.wiki old.tickets.items run.tickets.items lines left later taken more old.points.items run.points.items
IsBehind told faults old lines left later taken more (Stops run stop) =
    WritesFirst told faults old.wiki run.wiki old.tickets.items run.tickets.items lines left later taken more old.points.items run.points.items × IsWriting stop
IsBehind told faults old lines left later taken more (Lost keeper points why) =
    IsLost told faults old.wiki old.tickets.items why keeper × (left ≡ later) × (taken ≡ more) × (points.items ≡ old.points.items)

-- The reply to a restart, which this run stands behind, was written, or a prefix of it.
abbrev pub IsRestartTold : {K : Type 0} → Run K → Option (List ℕ) → Option (List ℕ) → Next K → Type 0
IsRestartTold run taken more (Goes after) =
    (after ≡ run) × Appends taken more (reply_text (reply_beside (restart_entries run.wiki.state) (length run.wiki.journal)))
IsRestartTold run taken more (Stops after stop) =
    (after ≡ run) × AppendsPrefix taken more (reply_text (reply_beside (restart_entries run.wiki.state) (length run.wiki.journal))) × IsWriting stop
IsRestartTold run taken more (Lost keeper points why) = ⊥

-- All lines of the input were answered, or the run stopped on the way, or lost its store.
abbrev pub IsBehindAll : {K : Type 0} → (K → Option StoreTables) → (K → ℕ) → WikiSeen K → Outside → Outside → Next K → Type 0
IsBehindAll told faults old before after (Goes run) = IsThrough told faults old run.wiki run.tickets.items before after run.points.items
IsBehindAll told faults old before after (Stops run stop) = StopsWithin told faults old run.wiki run.tickets.items before after run.points.items stop
IsBehindAll told faults old before after (Lost keeper points why) = LosesStore told faults old keeper before after points.items why

-- The tickets of a run have come in.
abbrev pub HasComeIn : {K : Type 0} → (K → Option StoreTables) → WikiSeen K → List TicketDraft → Result (WikiSeen K) K → Type 0
HasComeIn told old drafts (Ok wiki) =
    HasLife (all_given_back (script_of old drafts)) wiki × (wiki.keeper ≡ old.keeper) × IsTold told wiki.state wiki.keeper
HasComeIn told old drafts (Err keeper) = ⊥
