-- What comes of a script's line (own).
use Rattle.std.specs.Prelude.{◌≡◌, ℕ, List, Option, Some, Result, IfOk}
use Rattle.serde_json.specs.View.{view}
use Rattle.serde_json.specs.declared.value.Value.{Value}
use Rattle.wk_memory.specs.declared.Memory.{Memory}
use Rattle.wk_base.specs.Faults.{Rose}
use Rattle.wk_table_rules.specs.Rows.{StoreTables}
use Rattle.wk_core.specs.Seen.{WikiSeen}
use Rattle.wk_core.specs.Steps.{GoesOn}
use Rattle.wk_answer_rules.specs.ApiErrors.{api_error, storefault}
use Rattle.wk_answer_rules.specs.Values.{ApiReply}
use Rattle.wk_script_rules.specs.ScriptLines.{ScriptLine}
use Rattle.wk_script_rules.specs.WikiScripts.{TicketDraft}
use Rattle.wk_script_rules.specs.Runs.{LineRun}
use Rattle.wk_script_steps.specs.Seen.{Holds, script_of}

-- The line was answered by this reply: the wiki and the tickets are as the rules have it, the wiki began as before and its
-- keeper goes on. Where the reply tells of a fault of the store its count of faults rose.
pub record Tells {K : Type 0} (told : K → Option StoreTables) (faults : K → ℕ) (moment : ℕ) (line : ScriptLine)
    (old new : WikiSeen K) (drafts after : List TicketDraft) (reply : ApiReply) : Type 0 where
  pub run : LineRun old.start.limits (script_of old drafts) moment line (Some reply) (script_of new after)
  pub holds : Holds new.state after
  pub start : new.start ≡ old.start
  pub keeper : GoesOn told faults old new
  pub fault : reply ≡ api_error storefault reply.point → Rose (faults old.keeper) (faults new.keeper)

-- The same, and this is the reply's value; or memory was wanting for the value.
pub record Answers {K : Type 0} (told : K → Option StoreTables) (faults : K → ℕ) (moment : ℕ) (line : ScriptLine)
    (old new : WikiSeen K) (drafts after : List TicketDraft) (result : Result Value Memory) : Type 0 where
  pub reply : ApiReply
  pub tells : Tells told faults moment line old new drafts after reply
  pub value : IfOk result (λ v. view v ≡ reply.value)
