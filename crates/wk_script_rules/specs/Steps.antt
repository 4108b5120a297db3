-- What each line of a script does and is answered with, where memory is never wanting and no call of the store fails (own).
use Rattle.std.specs.Prelude.{ℕ, [], codes, Option, Some, None, if◌then◌else◌}
use Rattle.wk_page_rules.specs.Verdict.{MostHeld}
use Rattle.wk_text_rules.specs.Titles.{PageTitle}
use Rattle.wk_view_rules.specs.Plans.{done, need}
use Rattle.wk_view_rules.specs.Worlds.{Read, answer_in}
use Rattle.wk_view_rules.specs.declared.Kind.{Kind}
use Rattle.wk_wiki_rules.specs.Steps.{fan_pages}
use Rattle.wk_wiki_rules.specs.States.{State, world_of}
use Rattle.wk_wiki_rules.specs.Events.{Event, Claim, Done, Fan}
use Rattle.wk_wiki_rules.specs.Claims.{ClaimOutcome, claim_outcome}
use Rattle.wk_wiki_rules.specs.Fans.{next_fan_outcome}
use Rattle.wk_wiki_rules.specs.Room.{is_claim_refused, is_fan_refused}
use Rattle.wk_wiki_rules.specs.Staleness.{StaleRead, first_stale}
use Rattle.wk_request_rules.specs.Requests.{ParsedRequest}
use Rattle.wk_answer_rules.specs.Values.{ApiReply, Entries, reply_beside}
use Rattle.wk_answer_rules.specs.ApiErrors.{journalfull, api_error}
use Rattle.wk_answer_rules.specs.Saves.{Answered}
use Rattle.wk_answer_rules.specs.Answers.{answer_to_parsed}
use Rattle.wk_script_rules.specs.ScriptLines.{ScriptLine, empty_line, long_line, api_line, claim_line, read_line, finish_line, giveback_line, fan_line, restart_line, unknown_line}
use Rattle.wk_script_rules.specs.WikiScripts.{TicketDraft, WikiScript, point_of, after_event, draft_of, drafted, with_draft, with_read, without_draft, given_back_by, restarted}
use Rattle.wk_script_rules.specs.Replies.{LineError, badline, linetoolong, notticket, noread, needsread, line_error, claim_entries, nothing_entries, read_entries, done_entries, stale_entries, giveback_entries, fan_entries, restart_entries}

-- a line's reply, if it has one, and what stands behind the line
pub record LineStep : Type 0 where
  pub reply : Option ApiReply
  pub after : WikiScript

-- the reply shows the point behind the line
abbrev pub replied : WikiScript → Entries → LineStep
replied after entries = record { reply = Some (reply_beside entries (point_of after)); after = after }

abbrev pub refused_line : WikiScript → LineError → LineStep
refused_line s error = record { reply = Some (line_error error (point_of s)); after = s }

abbrev pub journal_full_line : WikiScript → LineStep
journal_full_line s = record { reply = Some (api_error journalfull (point_of s)); after = s }

-- ---- requests

abbrev pub after_answer : WikiScript → Option Event → WikiScript
after_answer s None = s
after_answer s (Some event) = after_event s event

abbrev pub api_answer : MostHeld → WikiScript → ℕ → ParsedRequest → Answered
api_answer most s moment request = answer_to_parsed most s.state (point_of s) moment request

abbrev pub answered_line : WikiScript → Answered → LineStep
answered_line s answer = record { reply = Some answer.reply; after = after_answer s answer.event }

-- ---- `claim`

-- the first queued job is claimed, and its draft has read nothing
abbrev pub claimed : WikiScript → ClaimOutcome → WikiScript
claimed s claim = with_draft (after_event s Claim) (record { ticket = claim.ticket; title = claim.title; seen = [] })

abbrev pub claim_step : MostHeld → WikiScript → LineStep
claim_step most s = elim (claim_outcome s.state (point_of s)) [
  | None ↦ replied s (nothing_entries (codes "claim"))
  | Some claim ↦
      if is_claim_refused most s.state (point_of s) then journal_full_line s
      else replied (claimed s claim) (claim_entries claim)
]

-- ---- `read`

-- a pair, as the present world answers it
abbrev pub present_read : State → PageTitle → Kind → Read
present_read state title kind = record { title = title; kind = kind; answer = answer_in (world_of state) title kind }

-- the pair that the draft needs is read
abbrev pub read_by_need : WikiScript → TicketDraft → PageTitle → Kind → LineStep
read_by_need s draft title kind =
    let read = present_read s.state title kind in replied (with_read s draft.ticket read) (read_entries read)

abbrev pub read_step : WikiScript → TicketDraft → LineStep
read_step s draft = elim (drafted draft) [
  | done expanded reads ↦ refused_line s noread
  | need title kind reads ↦ read_by_need s draft title kind
]

-- ---- `finish`

abbrev pub finished : WikiScript → ℕ → WikiScript
finished s ticket = without_draft (after_event s (Done ticket)) ticket

-- stale for the first read that isn't current any more, else done
abbrev pub finish_by : WikiScript → ℕ → Option StaleRead → LineStep
finish_by s ticket (Some stale) = replied (given_back_by s ticket) (stale_entries stale)
finish_by s ticket None = replied (finished s ticket) done_entries

abbrev pub finish_step : WikiScript → TicketDraft → LineStep
finish_step s draft = elim (drafted draft) [
  | need title kind reads ↦ refused_line s (needsread title kind)
  | done expanded reads ↦ finish_by s draft.ticket (first_stale (world_of s.state) reads)
]

-- ---- `giveback`

abbrev pub giveback_step : WikiScript → TicketDraft → LineStep
giveback_step s draft = replied (given_back_by s draft.ticket) (giveback_entries draft.title)

-- ---- `fan`

abbrev pub fan_step : MostHeld → WikiScript → LineStep
fan_step most s = elim (next_fan_outcome fan_pages s.state) [
  | None ↦ replied s (nothing_entries (codes "fan"))
  | Some fan ↦
      if is_fan_refused most s.state (point_of s) then journal_full_line s
      else replied (after_event s Fan) (fan_entries fan)
]

-- ---- `restart`

abbrev pub restart_step : WikiScript → LineStep
restart_step s = replied (restarted s) (restart_entries (restarted s).state)

-- ---- every line

-- what a line with a ticket does, where the ticket is out
abbrev pub with_ticket_out : WikiScript → ℕ → (WikiScript → TicketDraft → LineStep) → LineStep
with_ticket_out s ticket step_with = elim (draft_of s ticket) [ None ↦ refused_line s notticket | Some draft ↦ step_with s draft ]

-- What a line does, with the moment that it took, if it takes one.
unfoldable pub line_step : MostHeld → WikiScript → ℕ → ScriptLine → LineStep
line_step most s moment empty_line = record { reply = None; after = s }
line_step most s moment long_line = refused_line s linetoolong
line_step most s moment (api_line request) = answered_line s (api_answer most s moment request)
line_step most s moment claim_line = claim_step most s
line_step most s moment (read_line ticket) = with_ticket_out s ticket read_step
line_step most s moment (finish_line ticket) = with_ticket_out s ticket finish_step
line_step most s moment (giveback_line ticket) = with_ticket_out s ticket giveback_step
line_step most s moment fan_line = fan_step most s
line_step most s moment restart_line = restart_step s
line_step most s moment unknown_line = refused_line s badline
