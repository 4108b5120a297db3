-- What is told of a line, by its run.
use Rattle.std.proofs.Common.{◌≡◌, ℕ, List, Option, Some, subst}
use Rattle.wk_base.specs.Faults.{Rose}
use Rattle.wk_table_rules.specs.Rows.{StoreTables}
use Rattle.wk_page_rules.specs.Verdict.{MostHeld}
use Rattle.wk_core.specs.Seen.{WikiSeen}
use Rattle.wk_core.specs.Steps.{GoesOn}
use Rattle.wk_answer_rules.specs.Values.{ApiReply}
use Rattle.wk_answer_rules.specs.ApiErrors.{api_error, nomemory, storefault}
use Rattle.wk_script_rules.specs.ScriptLines.{ScriptLine}
use Rattle.wk_script_rules.specs.WikiScripts.{TicketDraft, WikiScript, point_of}
use Rattle.wk_script_rules.specs.Steps.{line_step}
use Rattle.wk_script_rules.specs.Runs.{LineRun, as_answered}
use Rattle.wk_answer_laws.proofs.Calm.{memory-is-no-fault, step-no-failure}
use Rattle.wk_script_steps.specs.Seen.{Holds, script_of}
use Rattle.wk_script_steps.specs.Told.{Tells}
use Rattle.wk_script_steps.proofs.LineRuns.{Comes}

run-of : (most : MostHeld) (s : WikiScript) (moment : ℕ) (line : ScriptLine) (reply : ApiReply) (after : WikiScript) → Comes most s moment line reply after
    → LineRun most s moment line (Some reply) after
run-of most s moment line reply after comes =
    subst (λ (o : Option ApiReply). LineRun most s moment line o after) comes.reply_is
    (subst (λ (t : WikiScript). LineRun most s moment line (line_step most s moment line).reply t) comes.after_is as_answered)

module _ {K : Type 0} (told : K → Option StoreTables) (faults : K → ℕ) (moment : ℕ) (line : ScriptLine) (old new : WikiSeen K) (drafts after : List TicketDraft) (reply : ApiReply) where
  -- as the rules have it, where nothing fails
  pub tells-step : Comes old.start.limits (script_of old drafts) moment line reply (script_of new after) → Holds new.state after → new.start ≡ old.start
      → GoesOn told faults old new → Tells told faults moment line old new drafts after reply
  tells-step comes holds start keeper = record {
    run = run-of old.start.limits (script_of old drafts) moment line reply (script_of new after) comes;
    holds = holds;
    start = start;
    keeper = keeper;
    fault = λ is. absurd ((step-no-failure old.start.limits (script_of old drafts) moment line reply comes.reply_is).store is);
  }

-- a failure, of which no step tells
module _ {K : Type 0} (told : K → Option StoreTables) (faults : K → ℕ) (moment : ℕ) (line : ScriptLine) (old new : WikiSeen K) (drafts after : List TicketDraft) where
  -- where memory is wanting
  pub tells-memory : LineRun old.start.limits (script_of old drafts) moment line (Some (api_error nomemory (point_of (script_of new after)))) (script_of new after)
      → Holds new.state after → new.start ≡ old.start → GoesOn told faults old new
      → Tells told faults moment line old new drafts after (api_error nomemory (point_of (script_of new after)))
  tells-memory run holds start keeper = record {
    run = run;
    holds = holds;
    start = start;
    keeper = keeper;
    fault = λ is. absurd (memory-is-no-fault (point_of (script_of new after)) (point_of (script_of new after)) is);
  }

  -- where the store failed
  pub tells-fault : LineRun old.start.limits (script_of old drafts) moment line (Some (api_error storefault (point_of (script_of new after)))) (script_of new after)
      → Holds new.state after → new.start ≡ old.start → GoesOn told faults old new → Rose (faults old.keeper) (faults new.keeper)
      → Tells told faults moment line old new drafts after (api_error storefault (point_of (script_of new after)))
  tells-fault run holds start keeper rose = record { run = run; holds = holds; start = start; keeper = keeper; fault = λ is. rose }
