-- What comes of what a message asks (own).
use Rattle.std.specs.Prelude.{◌≡◌, false, IfOk}
use Rattle.serde_json.specs.View.{view}
use Rattle.serde_json.specs.Written.{has_float}
use Rattle.wk_wire_rules.specs.Heads.{Message}
use Rattle.wk_wiki_rules.specs.Events.{Event}
use Rattle.wk_request_rules.specs.Requests.{ParsedRequest}
use Rattle.wk_answer_rules.specs.Values.{ApiReply}
use Rattle.wk_turn.specs.Told.{Begun, Story}
use Rattle.wk_session_rules.specs.Replies.{Reply}
use Rattle.wk_sending.specs.Replied.{Carries}
use Rattle.wk_sending.specs.declared.replies.Answer.{Answer}
use Rattle.wk_replica.specs.Replicas.{ReplicaBegun}
use Rattle.wk_replica_reads.specs.Answers.{IsAnswered, IsReplyTo}
use Rattle.wk_replica_reads.specs.Looks.{HasRead, seen_by}
use Rattle.wk_replica_reads.specs.declared.telling.Told.{Told}

-- What is asked was answered, and the pass has only looked. This is the reply's value, or memory was wanting for it.
pub record AnswersOn (shared : Begun ReplicaBegun) (old new : Story ReplicaBegun Event) (parsed : ParsedRequest) (told : Told) : Type 0 where
  pub pass : HasRead shared old new
  pub reply : ApiReply
  pub answered : IsAnswered (seen_by shared old) (seen_by shared new) parsed reply
  pub value : IfOk told.value (λ v. view v ≡ reply.value)
  pub point : told.point ≡ reply.point
  pub plain : has_float reply.value ≡ false

-- A message was answered with this reply, or memory was wanting for its body.
pub record AnswersMessage (shared : Begun ReplicaBegun) (old new : Story ReplicaBegun Event) (message : Message) (answer : Answer) : Type 0 where
  pub pass : HasRead shared old new
  pub reply : Reply
  pub replied : IsReplyTo (seen_by shared old) (seen_by shared new) message reply
  pub carried : Carries answer reply
