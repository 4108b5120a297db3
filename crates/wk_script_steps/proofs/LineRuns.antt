-- What a line's run is, by what the calls of the wiki told.
use Rattle.std.proofs.Common.{◌≡◌, ℕ, ◌+◌, Bool, true, false, cond, List, codes, unwrap_or, Option, Some, None, refl, sym, ap, ◌∙◌}
use Rattle.std.specs.Prelude.{IsSome, option_map}
use Rattle.wk_page_rules.specs.Verdict.{MostHeld}
use Rattle.wk_text_rules.specs.Titles.{PageTitle}
use Rattle.wk_view_rules.specs.Plans.{Outcome, done, need}
use Rattle.wk_view_rules.specs.Views.{Expanded}
use Rattle.wk_view_rules.specs.Worlds.{Read}
use Rattle.wk_view_rules.specs.declared.Kind.{Kind}
use Rattle.wk_wiki_rules.specs.Jobs.{FanEntry, first_fan, first_queued}
use Rattle.wk_wiki_rules.specs.Steps.{fan_pages}
use Rattle.wk_wiki_rules.specs.States.{State, title_at, world_of}
use Rattle.wk_wiki_rules.specs.Events.{Event, Fan}
use Rattle.wk_wiki_rules.specs.Claims.{ClaimOutcome, claim_outcome}
use Rattle.wk_wiki_rules.specs.Fans.{FanOutcome, fan_outcome, next_fan_outcome}
use Rattle.wk_wiki_rules.specs.Room.{is_claim_refused, is_fan_refused}
use Rattle.wk_wiki_rules.specs.Staleness.{StaleRead, first_stale}
use Rattle.wk_request_rules.specs.Requests.{ParsedRequest}
use Rattle.wk_core.specs.Seen.{WikiSeen}
use Rattle.wk_core.specs.Steps.{HasMade}
use Rattle.wk_answer_rules.specs.Values.{ApiReply, reply_beside}
use Rattle.wk_answer_rules.specs.ApiErrors.{api_error, journalfull}
use Rattle.wk_script_rules.specs.ScriptLines.{ScriptLine, api_line, claim_line, read_line, finish_line, giveback_line, fan_line, long_line, unknown_line}
use Rattle.wk_script_rules.specs.WikiScripts.{TicketDraft, WikiScript, point_of, after_event, draft_of, drafted, with_read, given_back_by}
use Rattle.wk_script_rules.specs.Replies.{badline, linetoolong, notticket, noread, needsread, line_error, claim_entries, nothing_entries, read_entries, done_entries, stale_entries, giveback_entries, fan_entries}
use Rattle.wk_script_rules.specs.Steps.{LineStep, replied, refused_line, journal_full_line, after_answer, api_answer, claimed, present_read, read_by_need, read_step, finished, finish_by, finish_step, giveback_step, line_step}
use Rattle.wk_script_steps.specs.Seen.{script_of}

-- behind an event, with these tickets
pub made-is : {K : Type 0} (old new : WikiSeen K) (event : Event) (drafts after : List TicketDraft) → HasMade old new event
    → script_of new after ≡ record (after_event (script_of old drafts) event) { drafts = after }
made-is old new event drafts after made = λ i. record {
  start = (made.start i).state;
  journal = made.journal i;
  state = sym (ap (λ (o : Option State). unwrap_or o old.state) made.stepped) i;
  drafts = after;
}

-- ---- what a step is, of a line

-- the step has this reply, and leaves this
pub record Comes (most : MostHeld) (s : WikiScript) (moment : ℕ) (line : ScriptLine) (reply : ApiReply) (after : WikiScript) : Type 0 where
  pub reply_is : (line_step most s moment line).reply ≡ Some reply
  pub after_is : (line_step most s moment line).after ≡ after

by-step : (most : MostHeld) (s : WikiScript) (moment : ℕ) (line : ScriptLine) (one : LineStep) (reply : ApiReply) (after : WikiScript)
    → line_step most s moment line ≡ one → one.reply ≡ Some reply → one.after ≡ after → Comes most s moment line reply after
by-step most s moment line one reply after is reply_is after_is =
    record { reply_is = ap (λ (x : LineStep). x.reply) is ∙ reply_is; after_is = ap (λ (x : LineStep). x.after) is ∙ after_is }

module _ (most : MostHeld) (s : WikiScript) (moment : ℕ) where
  -- ---- `claim`

  claim-at : Option ClaimOutcome → Bool → LineStep
  claim-at o full = elim o as (λ p. LineStep) [
    | None ↦ replied s (nothing_entries (codes "claim"))
    | Some claim ↦ cond full (journal_full_line s) (replied (claimed s claim) (claim_entries claim))
  ]

  claim-is : line_step most s moment claim_line ≡ claim-at (claim_outcome s.state (point_of s)) (is_claim_refused most s.state (point_of s))
  unfolding line_step claim-at
  claim-is = refl

  pub nothing-claimed : claim_outcome s.state (point_of s) ≡ None → Comes most s moment claim_line (reply_beside (nothing_entries (codes "claim")) (point_of s)) s
  unfolding claim-at
  nothing-claimed none = by-step most s moment claim_line _ _ s (claim-is ∙ ap (λ o. claim-at o (is_claim_refused most s.state (point_of s))) none) refl refl

  pub one-claimed : (claim : ClaimOutcome) (after : WikiScript) → claim_outcome s.state (point_of s) ≡ Some claim → is_claim_refused most s.state (point_of s) ≡ false
      → after ≡ claimed s claim → Comes most s moment claim_line (reply_beside (claim_entries claim) (point_of after)) after
  unfolding claim-at
  one-claimed claim after some room is =
      by-step most s moment claim_line _ _ after (claim-is ∙ (λ i. claim-at (some i) (room i)))
      (λ i. Some (reply_beside (claim_entries claim) (point_of (sym is i)))) (sym is)

  pub claim-full : IsSome (first_queued s.state.jobs) → is_claim_refused most s.state (point_of s) ≡ true → Comes most s moment claim_line (api_error journalfull (point_of s)) s
  unfolding claim-at
  claim-full queued full = by (first_queued s.state.jobs) refl queued
    where
      by : (o : Option ℕ) → first_queued s.state.jobs ≡ o → IsSome o → Comes most s moment claim_line (api_error journalfull (point_of s)) s
      by None is some = absurd (let e : false ≡ true = some in cc)
      by (Some page) is some =
          by-step most s moment claim_line _ _ s
          (claim-is ∙ (λ i. claim-at (option_map (λ p. record { ticket = point_of s + 1; title = title_at s.state.history p }) (is i)) (full i))) refl refl

  -- ---- `fan`

  fan-at : Option FanOutcome → Bool → LineStep
  fan-at o full = elim o as (λ p. LineStep) [
    | None ↦ replied s (nothing_entries (codes "fan"))
    | Some fan ↦ cond full (journal_full_line s) (replied (after_event s Fan) (fan_entries fan))
  ]

  fan-is : line_step most s moment fan_line ≡ fan-at (next_fan_outcome fan_pages s.state) (is_fan_refused most s.state (point_of s))
  unfolding line_step fan-at
  fan-is = refl

  pub nothing-fanned : next_fan_outcome fan_pages s.state ≡ None → Comes most s moment fan_line (reply_beside (nothing_entries (codes "fan")) (point_of s)) s
  unfolding fan-at
  nothing-fanned none = by-step most s moment fan_line _ _ s (fan-is ∙ ap (λ o. fan-at o (is_fan_refused most s.state (point_of s))) none) refl refl

  pub one-fanned : (fan : FanOutcome) (after : WikiScript) → next_fan_outcome fan_pages s.state ≡ Some fan → is_fan_refused most s.state (point_of s) ≡ false
      → after ≡ after_event s Fan → Comes most s moment fan_line (reply_beside (fan_entries fan) (point_of after)) after
  unfolding fan-at
  one-fanned fan after some room is =
      by-step most s moment fan_line _ _ after (fan-is ∙ (λ i. fan-at (some i) (room i)))
      (λ i. Some (reply_beside (fan_entries fan) (point_of (sym is i)))) (sym is)

  pub fan-full : IsSome (first_fan s.state.jobs) → is_fan_refused most s.state (point_of s) ≡ true → Comes most s moment fan_line (api_error journalfull (point_of s)) s
  unfolding fan-at
  fan-full stands full = by (first_fan s.state.jobs) refl stands
    where
      by : (o : Option FanEntry) → first_fan s.state.jobs ≡ o → IsSome o → Comes most s moment fan_line (api_error journalfull (point_of s)) s
      by None is some = absurd (let e : false ≡ true = some in cc)
      by (Some fan) is some =
          by-step most s moment fan_line _ _ s
          (fan-is ∙ (λ i. fan-at (option_map (fan_outcome fan_pages s.state) (is i)) (full i))) refl refl

  -- ---- lines with a ticket

  ticket-at : Option TicketDraft → (WikiScript → TicketDraft → LineStep) → LineStep
  ticket-at o step_with = elim o as (λ p. LineStep) [ None ↦ refused_line s notticket | Some draft ↦ step_with s draft ]

  read-is : (ticket : ℕ) → line_step most s moment (read_line ticket) ≡ ticket-at (draft_of s ticket) read_step
  unfolding line_step ticket-at
  read-is ticket = refl

  finish-is : (ticket : ℕ) → line_step most s moment (finish_line ticket) ≡ ticket-at (draft_of s ticket) finish_step
  unfolding line_step ticket-at
  finish-is ticket = refl

  giveback-is : (ticket : ℕ) → line_step most s moment (giveback_line ticket) ≡ ticket-at (draft_of s ticket) giveback_step
  unfolding line_step ticket-at
  giveback-is ticket = refl

  pub read-no-ticket : (ticket : ℕ) → draft_of s ticket ≡ None → Comes most s moment (read_line ticket) (line_error notticket (point_of s)) s
  unfolding ticket-at
  read-no-ticket ticket none = by-step most s moment (read_line ticket) _ _ s (read-is ticket ∙ ap (λ o. ticket-at o read_step) none) refl refl

  pub finish-no-ticket : (ticket : ℕ) → draft_of s ticket ≡ None → Comes most s moment (finish_line ticket) (line_error notticket (point_of s)) s
  unfolding ticket-at
  finish-no-ticket ticket none = by-step most s moment (finish_line ticket) _ _ s (finish-is ticket ∙ ap (λ o. ticket-at o finish_step) none) refl refl

  pub giveback-no-ticket : (ticket : ℕ) → draft_of s ticket ≡ None → Comes most s moment (giveback_line ticket) (line_error notticket (point_of s)) s
  unfolding ticket-at
  giveback-no-ticket ticket none = by-step most s moment (giveback_line ticket) _ _ s (giveback-is ticket ∙ ap (λ o. ticket-at o giveback_step) none) refl refl

  pub given-back : (ticket : ℕ) (draft : TicketDraft) (after : WikiScript) → draft_of s ticket ≡ Some draft → after ≡ given_back_by s draft.ticket
      → Comes most s moment (giveback_line ticket) (reply_beside (giveback_entries draft.title) (point_of after)) after
  unfolding ticket-at
  given-back ticket draft after out is =
      by-step most s moment (giveback_line ticket) _ _ after (giveback-is ticket ∙ ap (λ o. ticket-at o giveback_step) out)
      (λ i. Some (reply_beside (giveback_entries draft.title) (point_of (sym is i)))) (sym is)

  -- ---- `read`

  read-at : TicketDraft → Outcome Expanded → LineStep
  read-at draft o = elim o as (λ p. LineStep) [
    | done expanded reads ↦ refused_line s noread
    | need title kind reads ↦ read_by_need s draft title kind
  ]

  read-step-is : (draft : TicketDraft) → read_step s draft ≡ read-at draft (drafted draft)
  unfolding read-at
  read-step-is draft = refl

  pub nothing-to-read : (ticket : ℕ) (draft : TicketDraft) (expanded : Expanded) (reads : List Read) → draft_of s ticket ≡ Some draft → drafted draft ≡ done expanded reads
      → Comes most s moment (read_line ticket) (line_error noread (point_of s)) s
  unfolding ticket-at read-at
  nothing-to-read ticket draft expanded reads out is =
      by-step most s moment (read_line ticket) _ _ s (read-is ticket ∙ ap (λ o. ticket-at o read_step) out ∙ read-step-is draft ∙ ap (read-at draft) is) refl refl

  pub one-read : (ticket : ℕ) (draft : TicketDraft) (title : PageTitle) (kind : Kind) (reads : List Read) (after : WikiScript) → draft_of s ticket ≡ Some draft
      → drafted draft ≡ need title kind reads → after ≡ with_read s draft.ticket (present_read s.state title kind)
      → Comes most s moment (read_line ticket) (reply_beside (read_entries (present_read s.state title kind)) (point_of s)) after
  unfolding ticket-at read-at
  one-read ticket draft title kind reads after out is after_is =
      by-step most s moment (read_line ticket) _ _ after
      (read-is ticket ∙ ap (λ o. ticket-at o read_step) out ∙ read-step-is draft ∙ ap (read-at draft) is) refl (sym after_is)

  -- ---- `finish`

  finish-at : TicketDraft → Outcome Expanded → LineStep
  finish-at draft o = elim o as (λ p. LineStep) [
    | need title kind reads ↦ refused_line s (needsread title kind)
    | done expanded reads ↦ finish_by s draft.ticket (first_stale (world_of s.state) reads)
  ]

  finish-step-is : (draft : TicketDraft) → finish_step s draft ≡ finish-at draft (drafted draft)
  unfolding finish-at
  finish-step-is draft = refl

  pub read-missing : (ticket : ℕ) (draft : TicketDraft) (title : PageTitle) (kind : Kind) (reads : List Read) → draft_of s ticket ≡ Some draft → drafted draft ≡ need title kind reads
      → Comes most s moment (finish_line ticket) (line_error (needsread title kind) (point_of s)) s
  unfolding ticket-at finish-at
  read-missing ticket draft title kind reads out is =
      by-step most s moment (finish_line ticket) _ _ s (finish-is ticket ∙ ap (λ o. ticket-at o finish_step) out ∙ finish-step-is draft ∙ ap (finish-at draft) is) refl refl

  pub one-finished : (ticket : ℕ) (draft : TicketDraft) (expanded : Expanded) (reads : List Read) (after : WikiScript) → draft_of s ticket ≡ Some draft
      → drafted draft ≡ done expanded reads → first_stale (world_of s.state) reads ≡ None → after ≡ finished s draft.ticket
      → Comes most s moment (finish_line ticket) (reply_beside done_entries (point_of after)) after
  unfolding ticket-at finish-at
  one-finished ticket draft expanded reads after out is current after_is =
      by-step most s moment (finish_line ticket) _ _ after
      (finish-is ticket ∙ ap (λ o. ticket-at o finish_step) out ∙ finish-step-is draft ∙ ap (finish-at draft) is ∙ ap (finish_by s draft.ticket) current)
      (λ i. Some (reply_beside done_entries (point_of (sym after_is i)))) (sym after_is)

  pub one-stale : (ticket : ℕ) (draft : TicketDraft) (expanded : Expanded) (reads : List Read) (stale : StaleRead) (after : WikiScript) → draft_of s ticket ≡ Some draft
      → drafted draft ≡ done expanded reads → first_stale (world_of s.state) reads ≡ Some stale → after ≡ given_back_by s draft.ticket
      → Comes most s moment (finish_line ticket) (reply_beside (stale_entries stale) (point_of after)) after
  unfolding ticket-at finish-at
  one-stale ticket draft expanded reads stale after out is other after_is =
      by-step most s moment (finish_line ticket) _ _ after
      (finish-is ticket ∙ ap (λ o. ticket-at o finish_step) out ∙ finish-step-is draft ∙ ap (finish-at draft) is ∙ ap (finish_by s draft.ticket) other)
      (λ i. Some (reply_beside (stale_entries stale) (point_of (sym after_is i)))) (sym after_is)

  -- ---- `api`, and lines that aren't known

  pub api-answered : (read : ParsedRequest) (after : WikiScript) → after ≡ after_answer s (api_answer most s moment read).event
      → Comes most s moment (api_line read) (api_answer most s moment read).reply after
  unfolding line_step
  api-answered read after is = record { reply_is = refl; after_is = sym is }

  pub too-long : Comes most s moment long_line (line_error linetoolong (point_of s)) s
  unfolding line_step
  too-long = record { reply_is = refl; after_is = refl }

  pub not-known : Comes most s moment unknown_line (line_error badline (point_of s)) s
  unfolding line_step
  not-known = record { reply_is = refl; after_is = refl }
