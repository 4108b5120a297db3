-- What a message of a connection with a replica is answered (own). It is judged as one of a connection with a wiki is; where it is a
-- request of the API, the replica answers it at a point that is no older than what the pass had seen.
use Rattle.std.specs.Prelude.{◌≡◌, ◌≢◌, ℕ, ◌≤◌, length}
use Rattle.wk_wire_rules.specs.Heads.{Message}
use Rattle.wk_wiki_rules.specs.States.{State}
use Rattle.wk_wiki_rules.specs.Passes.{PassSeen}
use Rattle.wk_request_rules.specs.Requests.{ParsedRequest, Request, RequestRefusal, invalid, valid}
use Rattle.wk_answer_rules.specs.ApiErrors.{api_error, nomemory, request_error}
use Rattle.wk_answer_rules.specs.Values.{ApiReply}
use Rattle.wk_session_rules.specs.Points.{IsStateAt}
use Rattle.wk_session_rules.specs.Replies.{Reply, asked, bare, status_of, told}
use Rattle.wk_replica.specs.Answers.{replica_reply}

-- the pass has seen the point, which is no older than what it had seen before
abbrev pub IsPointOf : PassSeen → PassSeen → ℕ → Type 0
IsPointOf old new point = (length old.journal ≤ point) × (point ≤ length new.journal)

-- What is asked is answered by this reply.
pub data IsAnswered (old new : PassSeen) : ParsedRequest → ApiReply → Type 0 where
  -- as a replica answers it in the state at the point, at whatever moment: an edit and a deletion are refused
  read : {request : Request} {point : ℕ} {state : State} → IsStateAt old new point state → IsAnswered old new (valid request) (replica_reply state point 0 request)
  -- parameters that ask nothing
  declined : {refusal : RequestRefusal} {point : ℕ} → IsPointOf old new point → IsAnswered old new (invalid refusal) (api_error (request_error refusal) point)
  -- memory was wanting, or the replica takes no more
  out_of_memory : {parsed : ParsedRequest} {point : ℕ} → IsPointOf old new point → IsAnswered old new parsed (api_error nomemory point)

-- What a message is answered.
pub data IsReplyTo (old new : PassSeen) (message : Message) : Reply → Type 0 where
  refused : status_of message ≢ 200 → IsReplyTo old new message (bare (status_of message))
  answered : {reply : ApiReply} → status_of message ≡ 200 → IsAnswered old new (asked message) reply → IsReplyTo old new message (told reply)
