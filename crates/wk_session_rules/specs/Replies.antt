-- What a message of a connection is answered (own; the statuses are those of RFC 9110 section 15). A message is judged by its
-- method, then by its path, then by its body's type; if it passes, it is a request of the API, and the reply has status 200
-- whatever the API answers.
use Rattle.std.specs.Prelude.{◌≡◌, ◌≢◌, ℕ, Bool, true, false, not, List, [], ◌∷◌, length, slice_get, bytes_eq, codes, Option, Some, None, if◌then◌else◌}
use Rattle.serde_json.specs.Written.{compact_text}
use Rattle.wk_base.specs.Clock.{first_moment}
use Rattle.wk_wire_rules.specs.Heads.{Message, is_post}
use Rattle.wk_wire_rules.specs.Responses.{response}
use Rattle.wk_wire_rules.specs.declared.Method.{Method}
use Rattle.wk_wire_rules.specs.declared.Method.TheVariants.{Get, Post, Other}
use Rattle.wk_wiki_rules.specs.States.{State}
use Rattle.wk_wiki_rules.specs.Events.{Event}
use Rattle.wk_wiki_rules.specs.Passes.{PassSeen}
use Rattle.wk_request_rules.specs.Reading.{requested}
use Rattle.wk_request_rules.specs.Requests.{ParsedRequest, valid, invalid}
use Rattle.wk_answer_rules.specs.Answers.{answer_to_parsed, asks_to_save}
use Rattle.wk_answer_rules.specs.ApiErrors.{api_error, nomemory, storefault}
use Rattle.wk_answer_rules.specs.Saves.{Answered}
use Rattle.wk_answer_rules.specs.Values.{ApiReply}
use Rattle.wk_session_rules.specs.Points.{IsStateAt}

-- ---- what is sent

-- a status, a body, and the point that the body shows, if it shows one
pub record Reply : Type 0 where
  pub status : ℕ
  pub body : List ℕ
  pub point : Option ℕ

-- a status without a body
abbrev pub bare : ℕ → Reply
bare status = record { status = status; body = []; point = None }

-- what the API replies, as compact JSON
abbrev pub told : ApiReply → Reply
told reply = record { status = 200; body = compact_text reply.value; point = Some reply.point }

-- the bytes of a reply; with the reply to the last message the connection ends
abbrev pub sent : Message → Reply → List ℕ
sent message reply = response reply.status reply.body message.last

-- ---- what is asked

abbrev pub is_other : Method → Bool
is_other Get = false
is_other Post = false
is_other Other = true

abbrev pub api_path : List ℕ
api_path = codes "/api.php"

-- 405 for a method that isn't known, 404 for another path, 415 for a body of parts; else it is a request of the API
abbrev pub status_of : Message → ℕ
status_of message =
    if is_other message.method then 405 else
    (if not (bytes_eq message.path api_path) then 404 else
    (if message.multipart then 415 else 200))

-- what it asks of the API
abbrev pub asked : Message → ParsedRequest
asked message = requested message.query message.body (is_post message.method)

-- a moment of the clock is taken for an edit and for a deletion, also for one that is refused later
abbrev pub parsed_saves : ParsedRequest → Bool
parsed_saves (valid request) = asks_to_save request.ask
parsed_saves (invalid refusal) = false

-- these are the moments that are taken for what is asked: one, or none
abbrev pub AreMomentsOf : ParsedRequest → List ℕ → Type 0
AreMomentsOf parsed moments = length moments ≡ (if parsed_saves parsed then 1 else 0)

-- what the rules answer it in a state, behind a journal of this length
abbrev pub answer_at : PassSeen → State → ℕ → List ℕ → ParsedRequest → Answered
answer_at pass state point moments parsed = answer_to_parsed pass.start.limits state point (first_moment moments) parsed

-- ---- replies of the API

-- What is asked is answered on these moments by a reply, with which the pass made the entries at these places. `fails` holds
-- where the store may fail.
pub data IsAnswered (fails : Type 0) (old new : PassSeen) (parsed : ParsedRequest) : List ℕ → ApiReply → List ℕ → Type 0 where
  -- as the rules answer it at the point, where they make no event
  read : {moments : List ℕ} {point : ℕ} {state : State} →
      AreMomentsOf parsed moments → IsStateAt old new point state → (answer_at new state point moments parsed).event ≡ None →
      IsAnswered fails old new parsed moments (answer_at new state point moments parsed).reply []
  -- as they answer it there, where they make an event: it is the entry behind the point, and the pass's own
  saved : {moments : List ℕ} {point : ℕ} {state : State} {event : Event} →
      AreMomentsOf parsed moments → IsStateAt old new point state → (answer_at new state point moments parsed).event ≡ Some event →
      slice_get new.journal point ≡ Some event →
      IsAnswered fails old new parsed moments (answer_at new state point moments parsed).reply (point ∷ [])
  -- the store failed where they make an event
  store_failed : {moments : List ℕ} {point : ℕ} {state : State} {event : Event} →
      AreMomentsOf parsed moments → IsStateAt old new point state → (answer_at new state point moments parsed).event ≡ Some event →
      fails → IsAnswered fails old new parsed moments (api_error storefault point) []
  -- memory was wanting, and nothing was made
  out_of_memory : {moments : List ℕ} {point : ℕ} {state : State} →
      AreMomentsOf parsed moments → IsStateAt old new point state →
      IsAnswered fails old new parsed moments (api_error nomemory point) []
  -- memory was wanting to read what is asked, so that it isn't known whether it takes a moment
  unread : {point : ℕ} {state : State} → IsStateAt old new point state → IsAnswered fails old new parsed [] (api_error nomemory point) []

-- ---- replies

-- What a message is answered.
pub data IsReplyTo (fails : Type 0) (old new : PassSeen) (message : Message) : List ℕ → Reply → List ℕ → Type 0 where
  refused : status_of message ≢ 200 → IsReplyTo fails old new message [] (bare (status_of message)) []
  answered : {moments : List ℕ} {reply : ApiReply} {made : List ℕ} →
      status_of message ≡ 200 → IsAnswered fails old new (asked message) moments reply made →
      IsReplyTo fails old new message moments (told reply) made
