-- The answer that is made of a reply (own).
use Rattle.std.specs.Prelude.{◌≡◌, IfOk, string_bytes}
use Rattle.wk_session_rules.specs.Replies.{Reply}
use Rattle.wk_sending.specs.declared.replies.Answer.{Answer}

-- It is this reply, or memory was wanting for the body.
pub record Carries (answer : Answer) (reply : Reply) : Type 0 where
  pub status : answer.status ≡ reply.status
  pub body : IfOk answer.body (λ body. string_bytes body ≡ reply.body)
  pub point : answer.point ≡ reply.point
