-- What is known of the reply to each line of a script.
use Rattle.std.proofs.Common.{◌≡◌, ℕ, ◌+◌, Bool, true, false, cond, [], ◌∷◌, length, codes, Option, Some, None, refl, ap, ◌∙◌, sym, arith}
use Rattle.std.proofs.lemmas.List.{length-append}
use Rattle.std.specs.Option.{option_to_list}
use Rattle.serde_json.specs.Written.{has_float}
use Rattle.wk_page_rules.specs.Verdict.{MostHeld}
use Rattle.wk_view_rules.specs.Plans.{Outcome, done, need}
use Rattle.wk_view_rules.specs.Views.{Expanded}
use Rattle.wk_wiki_rules.specs.States.{world_of}
use Rattle.wk_wiki_rules.specs.Events.{Event, Fan}
use Rattle.wk_wiki_rules.specs.Claims.{ClaimOutcome, claim_outcome}
use Rattle.wk_wiki_rules.specs.Fans.{FanOutcome, next_fan_outcome}
use Rattle.wk_wiki_rules.specs.Room.{is_claim_refused, is_fan_refused}
use Rattle.wk_wiki_rules.specs.Staleness.{StaleRead, first_stale}
use Rattle.wk_wiki_rules.specs.Steps.{fan_pages}
use Rattle.wk_answer_rules.specs.Values.{ApiReply, Entries, reply_beside}
use Rattle.wk_answer_rules.specs.ApiErrors.{nomemory, storefault, journalfull, api_error, row_entries}
use Rattle.wk_answer_laws.proofs.Points.{placed}
use Rattle.wk_script_rules.specs.ScriptLines.{ScriptLine, empty_line, long_line, api_line, claim_line, read_line, finish_line, giveback_line, fan_line, restart_line, unknown_line}
use Rattle.wk_script_rules.specs.WikiScripts.{TicketDraft, WikiScript, point_of, after_event, draft_of, drafted, with_read, given_back_by, restarted}
use Rattle.wk_script_rules.specs.Replies.{LineError, badline, linetoolong, notticket, noread, needsread, line_row, line_error, claim_entries, nothing_entries, read_entries, done_entries, stale_entries, giveback_entries, fan_entries, restart_entries}
use Rattle.wk_script_rules.specs.Steps.{LineStep, replied, refused_line, journal_full_line, after_answer, api_answer, claimed, present_read, read_step, read_by_need, finished, finish_step, finish_by, giveback_step, with_ticket_out, line_step}
use Rattle.wk_script_rules.specs.Runs.{LineRun, as_answered, api_out_of_memory, api_out_of_memory_after, save_failed, claim_out_of_memory, read_out_of_memory, finish_out_of_memory, finish_failed, fan_out_of_memory, fan_failed}
use Rattle.wk_answer_laws.proofs.Floats.{Plain, answer-plain, error-plain, reply-plain, row-plain}

-- ---- what is known of a line's step, by what is known of its reply

-- a reply holds no float, and shows this point
abbrev pub IsFine : ℕ → ApiReply → Type 0
IsFine point reply = (has_float reply.value ≡ false) × (reply.point ≡ point)

abbrev FineStep : LineStep → Type 0
FineStep one = (reply : ApiReply) → one.reply ≡ Some reply → IsFine (point_of one.after) reply

by-reply : (after : WikiScript) (told : ApiReply) → IsFine (point_of after) told → FineStep (record { reply = Some told; after = after })
by-reply after told fine reply is = let same : told ≡ reply = (let e : Some told ≡ Some reply = is in cc) in
    (ap (λ r. has_float r.value) (sym same) ∙ fine.0, ap (λ r. r.point) (sym same) ∙ fine.1)

replied-fine : (after : WikiScript) (entries : Entries) → Plain entries → FineStep (replied after entries)
replied-fine after entries plain = by-reply after (reply_beside entries (point_of after)) (reply-plain entries (point_of after) plain, refl)

error-further : (error : LineError) → Plain (line_row error).further
error-further badline = tt
error-further linetoolong = tt
error-further notticket = tt
error-further noread = tt
error-further (needsread title kind) = (refl, (refl, tt))

refused-fine : (s : WikiScript) (error : LineError) → FineStep (refused_line s error)
refused-fine s error = by-reply s (line_error error (point_of s)) (reply-plain (row_entries (line_row error)) (point_of s) (row-plain (line_row error) (error-further error)), refl)

full-fine : (s : WikiScript) → FineStep (journal_full_line s)
full-fine s = by-reply s (api_error journalfull (point_of s)) (error-plain journalfull (point_of s), refl)

either-fine : (b : Bool) (one other : LineStep) → FineStep one → FineStep other → FineStep (cond b one other)
either-fine true one other first second = first
either-fine false one other first second = second

-- ---- the lines

module _ (most : MostHeld) (s : WikiScript) where
  claim-fine : (o : Option ClaimOutcome) → FineStep (elim o as (λ p. LineStep) [
    | None ↦ replied s (nothing_entries (codes "claim"))
    | Some claim ↦ cond (is_claim_refused most s.state (point_of s)) (journal_full_line s) (replied (claimed s claim) (claim_entries claim))
  ])
  claim-fine None = replied-fine s (nothing_entries (codes "claim")) (refl, tt)
  claim-fine (Some claim) =
      either-fine (is_claim_refused most s.state (point_of s)) (journal_full_line s) (replied (claimed s claim) (claim_entries claim)) (full-fine s)
      (replied-fine (claimed s claim) (claim_entries claim) (refl, tt))

  fan-fine : (o : Option FanOutcome) → FineStep (elim o as (λ p. LineStep) [
    | None ↦ replied s (nothing_entries (codes "fan"))
    | Some fan ↦ cond (is_fan_refused most s.state (point_of s)) (journal_full_line s) (replied (after_event s Fan) (fan_entries fan))
  ])
  fan-fine None = replied-fine s (nothing_entries (codes "fan")) (refl, tt)
  fan-fine (Some fan) =
      either-fine (is_fan_refused most s.state (point_of s)) (journal_full_line s) (replied (after_event s Fan) (fan_entries fan))
      (full-fine s) (replied-fine (after_event s Fan) (fan_entries fan) (refl, tt))

  read-fine : (draft : TicketDraft) → FineStep (read_step s draft)
  read-fine draft = by (drafted draft)
    where
      by : (o : Outcome Expanded) → FineStep (elim o as (λ p. LineStep) [
        | done expanded reads ↦ refused_line s noread
        | need title kind reads ↦ read_by_need s draft title kind
      ])
      by (done expanded reads) = refused-fine s noread
      by (need title kind reads) =
          let read = present_read s.state title kind in
          replied-fine (with_read s draft.ticket read) (read_entries read) (refl, tt)

  stale-fine : (ticket : ℕ) (o : Option StaleRead) → FineStep (finish_by s ticket o)
  stale-fine ticket None = replied-fine (finished s ticket) done_entries (refl, tt)
  stale-fine ticket (Some stale) = replied-fine (given_back_by s ticket) (stale_entries stale) (refl, (refl, (refl, (refl, (refl, tt)))))

  finish-fine : (draft : TicketDraft) → FineStep (finish_step s draft)
  finish-fine draft = by (drafted draft)
    where
      by : (o : Outcome Expanded) → FineStep (elim o as (λ p. LineStep) [
        | need title kind reads ↦ refused_line s (needsread title kind)
        | done expanded reads ↦ finish_by s draft.ticket (first_stale (world_of s.state) reads)
      ])
      by (done expanded reads) = stale-fine draft.ticket (first_stale (world_of s.state) reads)
      by (need title kind reads) = refused-fine s (needsread title kind)

  ticket-fine : (ticket : ℕ) (step_with : WikiScript → TicketDraft → LineStep) → ((draft : TicketDraft) → FineStep (step_with s draft)) → FineStep (with_ticket_out s ticket step_with)
  ticket-fine ticket step_with each = by (draft_of s ticket)
    where
      by : (o : Option TicketDraft) → FineStep (elim o as (λ p. LineStep) [ None ↦ refused_line s notticket | Some draft ↦ step_with s draft ])
      by None = refused-fine s notticket
      by (Some draft) = each draft

  point-behind : (o : Option Event) → point_of s + length (option_to_list o) ≡ point_of (after_answer s o)
  point-behind None = omega arith
  point-behind (Some event) = sym (length-append s.journal (event ∷ []))

  step-fine : (moment : ℕ) (line : ScriptLine) → FineStep (line_step most s moment line)
  unfolding line_step
  step-fine moment empty_line = λ reply is. absurd (let e : None ≡ Some reply = is in cc)
  step-fine moment long_line = refused-fine s linetoolong
  step-fine moment (api_line request) =
      by-reply (after_answer s (api_answer most s moment request).event) (api_answer most s moment request).reply (
        answer-plain most s.state (point_of s) moment request,
        placed most s.state (point_of s) moment request ∙ point-behind (api_answer most s moment request).event,
      )
  step-fine moment claim_line = claim-fine (claim_outcome s.state (point_of s))
  step-fine moment (read_line ticket) = ticket-fine ticket read_step read-fine
  step-fine moment (finish_line ticket) = ticket-fine ticket finish_step finish-fine
  step-fine moment (giveback_line ticket) = ticket-fine ticket giveback_step (λ draft. replied-fine (given_back_by s draft.ticket) (giveback_entries draft.title) (refl, tt))
  step-fine moment fan_line = fan-fine (next_fan_outcome fan_pages s.state)
  step-fine moment restart_line = replied-fine (restarted s) (restart_entries (restarted s).state) (refl, tt)
  step-fine moment unknown_line = refused-fine s badline

pub line-fine : (most : MostHeld) (s : WikiScript) (moment : ℕ) (line : ScriptLine) (told : Option ApiReply) (t : WikiScript) (reply : ApiReply)
    → LineRun most s moment line told t → told ≡ Some reply → IsFine (point_of t) reply
line-fine most s moment line told t reply as_answered is = step-fine most s moment line reply is
line-fine most s moment line told t reply api_out_of_memory is = by-reply t (api_error nomemory (point_of t)) (error-plain nomemory (point_of t), refl) reply is
line-fine most s moment line told t reply (api_out_of_memory_after made) is = by-reply t (api_error nomemory (point_of t)) (error-plain nomemory (point_of t), refl) reply is
line-fine most s moment line told t reply (save_failed made) is = by-reply t (api_error storefault (point_of t)) (error-plain storefault (point_of t), refl) reply is
line-fine most s moment line told t reply claim_out_of_memory is = by-reply t (api_error nomemory (point_of t)) (error-plain nomemory (point_of t), refl) reply is
line-fine most s moment line told t reply (read_out_of_memory out) is = by-reply t (api_error nomemory (point_of t)) (error-plain nomemory (point_of t), refl) reply is
line-fine most s moment line told t reply (finish_out_of_memory out) is = by-reply t (api_error nomemory (point_of t)) (error-plain nomemory (point_of t), refl) reply is
line-fine most s moment line told t reply (finish_failed out is_drafted current) is = by-reply t (api_error storefault (point_of t)) (error-plain storefault (point_of t), refl) reply is
line-fine most s moment line told t reply fan_out_of_memory is = by-reply t (api_error nomemory (point_of t)) (error-plain nomemory (point_of t), refl) reply is
line-fine most s moment line told t reply (fan_failed stands room) is = by-reply t (api_error storefault (point_of t)) (error-plain storefault (point_of t), refl) reply is
