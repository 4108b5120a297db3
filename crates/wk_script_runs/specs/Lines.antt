-- What comes of a script's line, with the clock (own).
use Rattle.std.specs.Prelude.{◌≡◌, ℕ, false, List, [], ◌∷◌, length, Option, Result, IfOk}
use Rattle.serde_json.specs.View.{view}
use Rattle.serde_json.specs.Written.{has_float}
use Rattle.serde_json.specs.declared.value.Value.{Value}
use Rattle.wk_memory.specs.declared.Memory.{Memory}
use Rattle.wk_base.specs.Faults.{Rose}
use Rattle.wk_table_rules.specs.Rows.{StoreTables}
use Rattle.wk_core.specs.Seen.{WikiSeen}
use Rattle.wk_core.specs.Steps.{GoesOn}
use Rattle.wk_answer_rules.specs.ApiErrors.{api_error, storefault}
use Rattle.wk_answer_rules.specs.Values.{ApiReply}
use Rattle.wk_script_rules.specs.ScriptLines.{ScriptLine, script_line}
use Rattle.wk_script_rules.specs.WikiScripts.{TicketDraft}
use Rattle.wk_script_rules.specs.Runs.{WikiScriptRun}
use Rattle.wk_script_steps.specs.Seen.{Holds, script_of}
use Rattle.wk_script_lines.specs.declared.line.ScriptLine.{ScriptLine as Line}
use Rattle.wk_script_lines.specs.declared.line.ScriptLine.TheVariants.{Empty, Restart}
use Rattle.wk_script_runs.specs.Served.{GivesMoments}

-- A line of this form was answered by a reply, on the moments that the clock gave for it: the wiki and the tickets are as
-- the rules have it, the wiki began as before and its keeper goes on. Where the reply tells of a fault of the store its
-- count of faults rose. This is the reply's value, or memory was wanting for it.
pub record AnswersLine {K : Type 0} (told : K → Option StoreTables) (faults : K → ℕ) (line : ScriptLine)
    (old new : WikiSeen K) (drafts after : List TicketDraft) (left later : Option (List ℕ)) (result : Result Value Memory) : Type 0 where
  pub reply : ApiReply
  pub moments : List ℕ
  pub run : (raw : Option (List ℕ)) → script_line raw ≡ line
      → WikiScriptRun old.start.limits (script_of old drafts) (raw ∷ []) moments (reply ∷ []) (script_of new after)
  pub given : GivesMoments left later moments
  pub holds : Holds new.state after
  pub start : new.start ≡ old.start
  pub keeper : GoesOn told faults old new
  pub fault : reply ≡ api_error storefault reply.point → Rose (faults old.keeper) (faults new.keeper)
  pub value : IfOk result (λ v. view v ≡ reply.value)
  -- the reply shows the point behind the line, and holds no float
  pub point : reply.point ≡ length new.journal
  pub plain : has_float reply.value ≡ false

-- it has a reply, and is answered by the present wiki
abbrev pub HasReply : Line → Type 0
HasReply Empty = ⊥
HasReply Restart = ⊥
HasReply _ = Unit {0}
