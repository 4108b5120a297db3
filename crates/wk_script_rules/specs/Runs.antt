-- What all lines of a script are answered with: as a function of the lines and the moments, and as a relation in which
-- memory may be wanting and the store may fail (own).
use Rattle.std.specs.Prelude.{◌≡◌, ◌≢◌, ℕ, true, false, List, [], ◌∷◌, ◌++◌, flat_map, Option, Some, None, if◌then◌else◌}
use Rattle.std.specs.Option.{option_to_list}
use Rattle.serde_json.specs.Written.{compact_text}
use Rattle.wk_base.specs.Clock.{first_moment, later_moments}
use Rattle.wk_page_rules.specs.Verdict.{MostHeld}
use Rattle.wk_view_rules.specs.Plans.{done}
use Rattle.wk_view_rules.specs.Views.{Expanded}
use Rattle.wk_view_rules.specs.Worlds.{Read}
use Rattle.wk_wiki_rules.specs.Jobs.{FanEntry, first_fan}
use Rattle.wk_wiki_rules.specs.States.{world_of}
use Rattle.wk_wiki_rules.specs.Events.{Event}
use Rattle.wk_wiki_rules.specs.Room.{is_fan_refused}
use Rattle.wk_wiki_rules.specs.Staleness.{first_stale}
use Rattle.wk_request_rules.specs.Requests.{ParsedRequest}
use Rattle.wk_answer_rules.specs.Values.{ApiReply}
use Rattle.wk_answer_rules.specs.ApiErrors.{nomemory, storefault, api_error}
use Rattle.wk_script_rules.specs.ScriptLines.{ScriptLine, api_line, claim_line, read_line, finish_line, fan_line, script_line, takes_moment}
use Rattle.wk_script_rules.specs.WikiScripts.{TicketDraft, WikiScript, point_of, after_event, draft_of, drafted, given_back_by, all_given_back}
use Rattle.wk_script_rules.specs.Steps.{api_answer, line_step}

-- ---- bytes

-- the bytes that a line has at most
abbrev pub max_line : ℕ
max_line = 8388608

-- what is written for a reply: a line of compact JSON
abbrev pub reply_text : ApiReply → List ℕ
reply_text reply = compact_text reply.value ++ 10 ∷ []

abbrev pub replies_text : List ApiReply → List ℕ
replies_text replies = flat_map reply_text replies

-- ---- the function

-- all replies, and what stands behind the lines
pub record ScriptAnswers : Type 0 where
  pub replies : List ApiReply
  pub after : WikiScript

-- the moment that a line takes: the clock's next, or 0 where it takes none
abbrev pub moment_for : ScriptLine → List ℕ → ℕ
moment_for line moments = if takes_moment line then first_moment moments else 0

-- The moments that are left after a line, as a clock goes on: the last one stays. So the list may be that of the clock, or
-- that of the moments which the lines took.
abbrev pub moments_after : ScriptLine → List ℕ → List ℕ
moments_after line moments = if takes_moment line then later_moments moments else moments

-- a reply before those of later lines
abbrev pub with_reply : Option ApiReply → ScriptAnswers → ScriptAnswers
with_reply reply later = record later { replies = option_to_list reply ++ later.replies }

-- The lines one after the other, with these moments.
unfoldable pub script_answers : MostHeld → WikiScript → List (Option (List ℕ)) → List ℕ → ScriptAnswers
script_answers most s [] moments = record { replies = []; after = s }
script_answers most s (line ∷ lines) moments =
    let one = line_step most s (moment_for (script_line line) moments) (script_line line) in
    with_reply one.reply (script_answers most one.after lines (moments_after (script_line line) moments))

-- The replies to all lines.
abbrev pub wiki_script_replies : MostHeld → WikiScript → List (Option (List ℕ)) → List ℕ → List ApiReply
wiki_script_replies most s lines moments = (script_answers most s lines moments).replies

-- the life and the state in which a script ends: at the end of the input the tickets that are out are given back
abbrev pub script_end : MostHeld → WikiScript → List (Option (List ℕ)) → List ℕ → WikiScript
script_end most s lines moments = all_given_back (script_answers most s lines moments).after

-- ---- want of memory and faults of the store

-- What a line is answered with in each way that is possible, and what then stands behind it.
pub data LineRun (most : MostHeld) (s : WikiScript) (moment : ℕ) : ScriptLine → Option ApiReply → WikiScript → Type 0 where
  as_answered : {line : ScriptLine} →
      LineRun most s moment line (line_step most s moment line).reply (line_step most s moment line).after
  -- want of memory may come in the place of any answer: a request changes nothing, or its event has been made
  api_out_of_memory : {request : ParsedRequest} →
      LineRun most s moment (api_line request) (Some (api_error nomemory (point_of s))) s
  api_out_of_memory_after : {request : ParsedRequest} {event : Event} →
      (api_answer most s moment request).event ≡ Some event →
      LineRun most s moment (api_line request) (Some (api_error nomemory (point_of (after_event s event)))) (after_event s event)
  -- the store fails where a save would be an event
  save_failed : {request : ParsedRequest} {event : Event} →
      (api_answer most s moment request).event ≡ Some event →
      LineRun most s moment (api_line request) (Some (api_error storefault (point_of s))) s
  claim_out_of_memory : LineRun most s moment claim_line (Some (api_error nomemory (point_of s))) s
  -- the ticket and its reads stay
  read_out_of_memory : {ticket : ℕ} {draft : TicketDraft} → draft_of s ticket ≡ Some draft →
      LineRun most s moment (read_line ticket) (Some (api_error nomemory (point_of s))) s
  -- the ticket's page is given back
  finish_out_of_memory : {ticket : ℕ} {draft : TicketDraft} → draft_of s ticket ≡ Some draft →
      LineRun most s moment (finish_line ticket) (Some (api_error nomemory (point_of (given_back_by s ticket)))) (given_back_by s ticket)
  -- the store fails where the refresh would be done
  finish_failed : {ticket : ℕ} {draft : TicketDraft} {expanded : Expanded} {reads : List Read} →
      draft_of s ticket ≡ Some draft → drafted draft ≡ done expanded reads → first_stale (world_of s.state) reads ≡ None →
      LineRun most s moment (finish_line ticket) (Some (api_error storefault (point_of (given_back_by s ticket)))) (given_back_by s ticket)
  fan_out_of_memory : LineRun most s moment fan_line (Some (api_error nomemory (point_of s))) s
  -- the store fails where the fan would be an event
  fan_failed : {fan : FanEntry} → first_fan s.state.jobs ≡ Some fan → is_fan_refused most s.state (point_of s) ≡ false →
      LineRun most s moment fan_line (Some (api_error storefault (point_of s))) s

-- A run of a script over lines, which took these moments, gave these replies and left this behind it.
pub data WikiScriptRun (most : MostHeld) : WikiScript → List (Option (List ℕ)) → List ℕ → List ApiReply → WikiScript → Type 0 where
  over : {s : WikiScript} → WikiScriptRun most s [] [] [] s
  timed : {s t u : WikiScript} {line : Option (List ℕ)} {lines : List (Option (List ℕ))} {moment : ℕ} {moments : List ℕ} {reply : Option ApiReply} {replies : List ApiReply} →
      takes_moment (script_line line) ≡ true → LineRun most s moment (script_line line) reply t →
      WikiScriptRun most t lines moments replies u →
      WikiScriptRun most s (line ∷ lines) (moment ∷ moments) (option_to_list reply ++ replies) u
  -- the parameters of a request couldn't be read for want of memory, so that it isn't known whether it takes a moment
  unread : {s t : WikiScript} {line : Option (List ℕ)} {lines : List (Option (List ℕ))} {moments : List ℕ} {replies : List ApiReply} {request : ParsedRequest} →
      script_line line ≡ api_line request → WikiScriptRun most s lines moments replies t →
      WikiScriptRun most s (line ∷ lines) moments (api_error nomemory (point_of s) ∷ replies) t
  untimed : {s t u : WikiScript} {line : Option (List ℕ)} {lines : List (Option (List ℕ))} {moments : List ℕ} {reply : Option ApiReply} {replies : List ApiReply} →
      takes_moment (script_line line) ≡ false → LineRun most s 0 (script_line line) reply t →
      WikiScriptRun most t lines moments replies u →
      WikiScriptRun most s (line ∷ lines) moments (option_to_list reply ++ replies) u

-- it is neither the answer for want of memory nor that for a fault of the store
pub record HasNoFailure (reply : ApiReply) : Type 0 where
  pub memory : reply ≢ api_error nomemory reply.point
  pub store : reply ≢ api_error storefault reply.point
