-- Lines that are answered, with the clock.
use Rattle.std.proofs.Common.{◌≡◌, ℕ, true, false, List, [], ◌∷◌, Option, Some, refl, sym, ap, ◌∙◌, subst}
use Rattle.std.specs.Prelude.{Result, IfOk}
use Rattle.serde_json.specs.View.{view}
use Rattle.serde_json.specs.declared.value.Value.{Value}
use Rattle.wk_memory.specs.declared.Memory.{Memory}
use Rattle.wk_base.specs.Clock.{Ticks}
use Rattle.wk_table_rules.specs.Rows.{StoreTables}
use Rattle.wk_request_rules.specs.Requests.{ParsedRequest}
use Rattle.wk_core.specs.Seen.{WikiSeen}
use Rattle.wk_core.specs.Steps.{GoesOn}
use Rattle.wk_answer_rules.specs.ApiErrors.{api_error, nomemory}
use Rattle.wk_script_rules.specs.ScriptLines.{ScriptLine, api_line, takes_moment}
use Rattle.wk_script_rules.specs.WikiScripts.{TicketDraft, WikiScript, point_of}
use Rattle.wk_script_rules.specs.Runs.{LineRun, WikiScriptRun, over, timed, unread, untimed}
use Rattle.wk_answer_laws.proofs.Calm.{memory-is-no-fault}
use Rattle.wk_answer_laws.proofs.Floats.{error-plain}
use Rattle.wk_answer_laws.proofs.Lines.{line-fine}
use Rattle.wk_script_steps.specs.Seen.{Holds, script_of}
use Rattle.wk_script_runs.specs.Lines.{AnswersLine}
use Rattle.wk_script_steps.specs.Told.{Answers}

-- ---- with the clock

module _ {K : Type 0} (told : K → Option StoreTables) (faults : K → ℕ) (line : ScriptLine) (old new : WikiSeen K) (drafts after : List TicketDraft) (left later : Option (List ℕ)) (result : Result Value Memory) where
  -- a line that takes no moment
  pub untimed-line : takes_moment line ≡ false → left ≡ later → Answers told faults 0 line old new drafts after result
      → AnswersLine told faults line old new drafts after left later result
  untimed-line none same answers = record {
    reply = answers.reply;
    moments = [];
    run = λ raw is. untimed (ap takes_moment is ∙ none)
        (subst (λ (l : ScriptLine). LineRun old.start.limits (script_of old drafts) 0 l (Some answers.reply) (script_of new after)) (sym is) answers.tells.run) over;
    given = same;
    holds = answers.tells.holds;
    start = answers.tells.start;
    keeper = answers.tells.keeper;
    fault = answers.tells.fault;
    value = answers.value;
    point = (line-fine old.start.limits (script_of old drafts) 0 line (Some answers.reply) (script_of new after) answers.reply answers.tells.run refl).1;
    plain = (line-fine old.start.limits (script_of old drafts) 0 line (Some answers.reply) (script_of new after) answers.reply answers.tells.run refl).0;
  }

  -- one that takes a moment
  pub timed-line : (moment : ℕ) → takes_moment line ≡ true → Ticks left later moment → Answers told faults moment line old new drafts after result
      → AnswersLine told faults line old new drafts after left later result
  timed-line moment takes ticks answers = record {
    reply = answers.reply;
    moments = moment ∷ [];
    run = λ raw is. timed (ap takes_moment is ∙ takes)
        (subst (λ (l : ScriptLine). LineRun old.start.limits (script_of old drafts) moment l (Some answers.reply) (script_of new after)) (sym is) answers.tells.run) over;
    given = (later, ticks, refl);
    holds = answers.tells.holds;
    start = answers.tells.start;
    keeper = answers.tells.keeper;
    fault = answers.tells.fault;
    value = answers.value;
    point = (line-fine old.start.limits (script_of old drafts) moment line (Some answers.reply) (script_of new after) answers.reply answers.tells.run refl).1;
    plain = (line-fine old.start.limits (script_of old drafts) moment line (Some answers.reply) (script_of new after) answers.reply answers.tells.run refl).0;
  }

  -- a request that couldn't be read for want of memory
  pub unread-line : (request : ParsedRequest) → line ≡ api_line request → left ≡ later → script_of new after ≡ script_of old drafts → Holds new.state after
      → new.start ≡ old.start → GoesOn told faults old new → IfOk result (λ v. view v ≡ (api_error nomemory (point_of (script_of old drafts))).value)
      → AnswersLine told faults line old new drafts after left later result
  unread-line request is_api same unchanged holds start keeper value = record {
    reply = api_error nomemory (point_of (script_of old drafts));
    moments = [];
    run = λ raw is. unread (is ∙ is_api) (subst (λ (t : WikiScript). WikiScriptRun old.start.limits (script_of old drafts) [] [] [] t) (sym unchanged) over);
    given = same;
    holds = holds;
    start = start;
    keeper = keeper;
    fault = λ is. absurd (memory-is-no-fault (point_of (script_of old drafts)) (point_of (script_of old drafts)) is);
    value = value;
    point = ap point_of (sym unchanged);
    plain = error-plain nomemory (point_of (script_of old drafts));
  }
