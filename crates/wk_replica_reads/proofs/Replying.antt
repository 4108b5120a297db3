-- A reply to a message.
use Rattle.std.proofs.Common.{◌≡◌, ℕ, Bool, List, ◌++◌, refl, ap, ◌∙◌, inl, inr}
use Rattle.std.specs.Option.{option_to_list}
use Rattle.std.specs.Prelude.{Option, Result, Err}
use Rattle.wk_wire_rules.specs.Heads.{Message}
use Rattle.wk_wiki_rules.specs.Passes.{PassSeen}
use Rattle.wk_http.specs.declared.report.SessionEnd.{SessionEnd}
use Rattle.wk_http.specs.declared.report.SessionEnd.TheVariants.{Memory}
use Rattle.wk_session_rules.specs.Replies.{Reply, sent}
use Rattle.wk_sending.specs.Replied.{Carries}
use Rattle.wk_sending.specs.Sending.{IsSent}
use Rattle.wk_sending.specs.declared.replies.Answer.{Answer}
use Rattle.wk_turn.specs.Told.{Begun}
use Rattle.wk_replica.specs.Replicas.{ReplicaBegun}
use Rattle.wk_replica_reads.specs.Looks.{seen_by}
use Rattle.wk_replica_reads.specs.Serving.{IsReplied}
use Rattle.wk_replica_reads.specs.Sessions.{LinkSeen}
use Rattle.wk_replica_reads.specs.Telling.{AnswersMessage}
use Rattle.wk_replica_reads.proofs.LookLaws.{Pass, read-goes}

pub replied-with : (shared : Begun ReplicaBegun) (old new : Pass) (message : Message) (rest more_rest taken more_taken : Option (List ℕ)) (answer : Answer) (points more : List ℕ) (result : Result (Unit {0}) SessionEnd) (last : Bool)
    → more_rest ≡ rest → AnswersMessage shared old new message answer → last ≡ message.last → more ≡ points ++ option_to_list answer.point
    → ((m : Message) (reply : Reply) → last ≡ m.last → Carries answer reply → IsSent (sent m reply) taken more_taken result)
    → IsReplied (seen_by shared old) (seen_by shared new) message (record { rest = rest; taken = taken }) (record { rest = more_rest; taken = more_taken }) points more result
replied-with shared old new message rest more_rest taken more_taken answer points more result last kept a same shown is = inl (record {
  reply = a.reply;
  replied = a.replied;
  goes = read-goes shared old new a.pass;
  sent_is = is message a.reply same a.carried;
  rest = kept;
  points_are = shown ∙ ap (λ (o : Option ℕ). points ++ option_to_list o) a.carried.point;
})

pub nothing-replied : (pass : PassSeen) (message : Message) (link : LinkSeen) (points more : List ℕ) → more ≡ points → IsReplied pass pass message link link points more (Err Memory)
nothing-replied pass message link points more same = inr (refl, record { pass = refl; link = refl; points_are = same })
