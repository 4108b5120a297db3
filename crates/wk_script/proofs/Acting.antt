-- Requests that are carried out, and lines that a wiki isn't asked about.
use Rattle.std.proofs.Common.{◌≡◌, ◌≢◌, ℕ, true, false, List, length, Option, Some, None, refl, sym, ap, ◌∙◌, subst, arith, Bor}
use Rattle.std.specs.Prelude.{IsSome, Result, Ok, IfOk}
use Rattle.serde_json.specs.View.{view}
use Rattle.serde_json.specs.declared.value.Value.{Value}
use Rattle.wk_memory.specs.declared.Memory.{Memory}
use Rattle.wk_base.specs.Faults.{Rose}
use Rattle.wk_table_rules.specs.Rows.{StoreTables}
use Rattle.wk_wiki_rules.specs.Events.{Event, Save, Done, Back}
use Rattle.wk_life_laws.specs.Runs.{IsRun}
use Rattle.wk_core.specs.Seen.{WikiSeen}
use Rattle.wk_core.specs.Steps.{GoesOn, HasMadeAtMost, HasMadeNothing}
use Rattle.wk_request_rules.specs.Requests.{ParsedRequest, valid, invalid, RequestRefusal as Cause, number_of_refusal, parameter_of_refusal}
use Rattle.wk_request.specs.Refusals.{Refuses, told as told_refusal}
use Rattle.wk_request.specs.declared.refusal.RequestRefusal.{RequestRefusal}
use Rattle.wk_request.specs.declared.refusal.RequestRefusal.TheVariants.{Refused as ByNumber, Memory as NoMemory}
use Rattle.wk_answer_rules.specs.ApiErrors.{api_error, nomemory, request_error, storefault}
use Rattle.wk_answer_laws.proofs.Possible.{event-possible, IsPossibleSave}
use Rattle.wk_answer.specs.Declined.{IsDeclined}
use Rattle.wk_answer.specs.Saved.{IsActed, by_fault, by_rule}
use Rattle.wk_script_rules.specs.ScriptLines.{api_line}
use Rattle.wk_script_rules.specs.WikiScripts.{TicketDraft, WikiScript, point_of}
use Rattle.wk_script_rules.specs.Steps.{after_answer, api_answer}
use Rattle.wk_script_rules.specs.Runs.{LineRun, api_out_of_memory, save_failed}
use Rattle.wk_script_runs.specs.Lines.{AnswersLine}
use Rattle.wk_script_runs.proofs.Answering.{unread-line, untimed-line}
use Rattle.wk_script_steps.specs.Seen.{Holds, script_of}
use Rattle.wk_script_steps.specs.Told.{Answers}
use Rattle.wk_script_steps.proofs.Answering.{tells-fault, tells-memory, tells-step}
use Rattle.wk_script_steps.proofs.Calls.{answers-still}
use Rattle.wk_script_steps.proofs.Holding.{holds-on}
use Rattle.wk_script_steps.proofs.LineRuns.{api-answered, made-is}

module _ {K : Type 0} (told : K → Option StoreTables) (faults : K → ℕ) (old new : WikiSeen K) (drafts : List TicketDraft) (moment : ℕ) (read : ParsedRequest)
    (run : IsRun old.start old.journal old.state) (holds : Holds old.state drafts) (keeper : GoesOn told faults old new) where
  -- nothing happened
  still : HasMadeNothing told old new → script_of new drafts ≡ script_of old drafts
  still nothing = ap (λ (w : WikiSeen K). script_of w drafts) nothing.wiki

  still-holds : HasMadeNothing told old new → Holds new.state drafts
  still-holds nothing = subst (λ (w : WikiSeen K). Holds w.state drafts) (sym nothing.wiki) holds

  still-start : HasMadeNothing told old new → new.start ≡ old.start
  still-start nothing = ap (λ (w : WikiSeen K). w.start) nothing.wiki

  -- no request brings a ticket in
  plain : (event : Event) → IsPossibleSave old.start.limits old.state (length old.journal) event → (t : ℕ) → (event ≢ Done t) × (event ≢ Back t)
  plain event save t = (
    λ x. let is : Save save.title save.text save.moment ≡ Done t = sym save.is ∙ x in cc,
    λ x. let is : Save save.title save.text save.moment ≡ Back t = sym save.is ∙ x in cc,
  )

  as-rule : (v : Value) (event : Option Event) → (api_answer old.start.limits (script_of old drafts) moment read).event ≡ event → HasMadeAtMost told old new event
      → view v ≡ (api_answer old.start.limits (script_of old drafts) moment read).reply.value → Answers told faults moment (api_line read) old new drafts drafts (Ok v)
  as-rule v None is nothing value = record {
    reply = (api_answer old.start.limits (script_of old drafts) moment read).reply;
    tells = tells-step told faults moment (api_line read) old new drafts drafts (api_answer old.start.limits (script_of old drafts) moment read).reply
        (api-answered old.start.limits (script_of old drafts) moment read (script_of new drafts) (still nothing ∙ sym (ap (after_answer (script_of old drafts)) is)))
        (still-holds nothing) (still-start nothing) keeper;
    value = value;
  }
  as-rule v (Some event) is made value = record {
    reply = (api_answer old.start.limits (script_of old drafts) moment read).reply;
    tells = tells-step told faults moment (api_line read) old new drafts drafts (api_answer old.start.limits (script_of old drafts) moment read).reply
        (api-answered old.start.limits (script_of old drafts) moment read (script_of new drafts) (made-is old new event drafts drafts made ∙ sym (ap (after_answer (script_of old drafts)) is)))
        (holds-on old.start old.journal old.state new.state event run made.stepped drafts
        (plain event (event-possible old.start.limits old.state (length old.journal) moment read event is)) holds)
        made.start keeper;
    value = value;
  }

  as-fault : (v : Value) (event : Option Event) → (api_answer old.start.limits (script_of old drafts) moment read).event ≡ event → IsSome event
      → view v ≡ (api_error storefault (length old.journal)).value → Rose (faults old.keeper) (faults new.keeper) → HasMadeNothing told old new
      → Answers told faults moment (api_line read) old new drafts drafts (Ok v)
  as-fault v None is some value rose nothing = absurd (let e : false ≡ true = some in cc)
  as-fault v (Some event) is some value rose nothing = record {
    reply = api_error storefault (point_of (script_of new drafts));
    tells = tells-fault told faults moment (api_line read) old new drafts drafts
        (subst (λ (t : WikiScript). LineRun old.start.limits (script_of old drafts) moment (api_line read) (Some (api_error storefault (point_of t))) t) (sym (still nothing)) (save_failed is))
        (still-holds nothing) (still-start nothing) keeper rose;
    value = value ∙ ap (λ (t : WikiScript). (api_error storefault (point_of t)).value) (sym (still nothing));
  }

  -- a request was carried out
  pub acted : (v : Value) → IsActed told faults old new (api_answer old.start.limits (script_of old drafts) moment read) (view v)
      → Answers told faults moment (api_line read) old new drafts drafts (Ok v)
  acted v (by_rule value made fault) = as-rule v (api_answer old.start.limits (script_of old drafts) moment read).event refl made value
  acted v (by_fault some value rose nothing) = as-fault v (api_answer old.start.limits (script_of old drafts) moment read).event refl some value rose nothing

  -- memory was wanting for it
  pub starved : (point : ℕ) (result : Result Value Memory) → HasMadeNothing told old new → point ≡ length new.journal → IfOk result (λ v. view v ≡ (api_error nomemory point).value)
      → Answers told faults moment (api_line read) old new drafts drafts result
  starved point result nothing at value = record {
    reply = api_error nomemory (point_of (script_of new drafts));
    tells = tells-memory told faults moment (api_line read) old new drafts drafts
        (subst (λ (t : WikiScript). LineRun old.start.limits (script_of old drafts) moment (api_line read) (Some (api_error nomemory (point_of t))) t) (sym (still nothing)) api_out_of_memory)
        (still-holds nothing) (still-start nothing) keeper;
    value = subst (λ n. IfOk result (λ v. view v ≡ (api_error nomemory n).value)) at value;
  }

-- ---- parameters that ask nothing

-- why they ask nothing
pub cause-of : (parsed : ParsedRequest) (number : ℕ) (parameter : Bor (List ℕ)) → Refuses parsed (ByNumber number parameter)
    → (cause : Cause) × (parsed ≡ invalid cause) × (told_refusal (ByNumber number parameter) ≡ Some (number_of_refusal cause, parameter_of_refusal cause))
cause-of (valid request) number parameter refuses = absurd (let e : None ≡ Some (number, parameter.now) = refuses in cc)
cause-of (invalid cause) number parameter refuses = (cause, refl, sym refuses)

-- they are answered by their error
pub refused-line : {K : Type 0} (told : K → Option StoreTables) (faults : K → ℕ) (wiki : WikiSeen K) (drafts : List TicketDraft) (cause : Cause) (result : Result Value Memory) → Holds wiki.state drafts
    → IfOk result (λ v. view v ≡ (api_error (request_error cause) (length wiki.journal)).value)
    → Answers told faults 0 (api_line (invalid cause)) wiki wiki drafts drafts result
refused-line told faults wiki drafts cause result holds value =
    answers-still told faults 0 (api_line (invalid cause)) wiki drafts drafts (api_error (request_error cause) (length wiki.journal)) result
    (api-answered wiki.start.limits (script_of wiki drafts) 0 (invalid cause) (script_of wiki drafts) refl) holds value

-- a request that couldn't be read, or asks nothing
pub declined : {K : Type 0} (told : K → Option StoreTables) (faults : K → ℕ) (wiki : WikiSeen K) (drafts : List TicketDraft) (left : Option (List ℕ)) (parsed : ParsedRequest) (refusal : RequestRefusal) (result : Result Value Memory)
    → Holds wiki.state drafts → Refuses parsed refusal → IsDeclined refusal (length wiki.journal) result → AnswersLine told faults (api_line parsed) wiki wiki drafts drafts left left result
declined told faults wiki drafts left parsed (ByNumber number parameter) result holds refuses value =
    let parts = cause-of parsed number parameter refuses in
    subst (λ (p : ParsedRequest). AnswersLine told faults (api_line p) wiki wiki drafts drafts left left result) (sym parts.1)
    (untimed-line told faults (api_line (invalid parts.0)) wiki wiki drafts drafts left left result refl refl
    (refused-line told faults wiki drafts parts.0 result holds (value parts.0 parts.2)))
declined told faults wiki drafts left parsed NoMemory result holds refuses value =
    unread-line told faults (api_line parsed) wiki wiki drafts drafts left left result parsed refl refl refl holds refl
    (record { tells = refl; never_falls = omega arith; whole = λ is. refl }) value
