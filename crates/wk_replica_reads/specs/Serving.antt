-- What comes of a message of a session with a replica (own).
use Rattle.std.specs.Prelude.{◌≡◌, ◌⊎◌, ℕ, List, [], ◌++◌, length, Result, Err}
use Rattle.std.specs.Option.{option_to_list}
use Rattle.std.specs.Io.KnownBytes.{Appends, Consumes}
use Rattle.wk_wire_rules.specs.Heads.{Message}
use Rattle.wk_wiki_rules.specs.Passes.{PassSeen}
use Rattle.wk_http.specs.declared.report.SessionEnd.{SessionEnd}
use Rattle.wk_http.specs.declared.report.SessionEnd.TheVariants.{Memory}
use Rattle.wk_session_rules.specs.Points.{GoesOn}
use Rattle.wk_session_rules.specs.Replies.{Reply, sent}
use Rattle.wk_session_rules.specs.Sessions.{BeginsWith}
use Rattle.wk_sending.specs.Sending.{IsSent}
use Rattle.wk_messages.specs.Reading.{Reading}
use Rattle.wk_replica_reads.specs.Answers.{IsReplyTo}
use Rattle.wk_replica_reads.specs.Sessions.{Exchange, Exchanges, LinkSeen, bytes_of, messages_of, points_of}

-- ---- a message

-- A reply was made to a message, and this is what was sent of it.
pub record RepliedTo (old new : PassSeen) (message : Message) (before after : LinkSeen) (points more : List ℕ) (result : Result (Unit {0}) SessionEnd) : Type 0 where
  pub reply : Reply
  pub replied : IsReplyTo old new message reply
  pub goes : GoesOn old new []
  pub sent_is : IsSent (sent message reply) before.taken after.taken result
  pub rest : after.rest ≡ before.rest
  pub points_are : more ≡ points ++ option_to_list reply.point

-- Memory was wanting before anything was done.
pub record HasDoneNothing (old new : PassSeen) (before after : LinkSeen) (points more : List ℕ) : Type 0 where
  pub pass : new ≡ old
  pub link : after ≡ before
  pub points_are : more ≡ points

-- what becomes of a message: a reply, or nothing for want of memory
abbrev pub IsReplied : PassSeen → PassSeen → Message → LinkSeen → LinkSeen → List ℕ → List ℕ → Result (Unit {0}) SessionEnd → Type 0
IsReplied old new message before after points more result =
    RepliedTo old new message before after points more result
    ⊎ ((result ≡ Err Memory) × HasDoneNothing old new before after points more)

-- ---- all messages so far

-- Messages were answered in full, and these bytes that were read are left.
pub record HasServed (old now : PassSeen) (before after : LinkSeen) (reading : Reading) (points : List ℕ) : Type 0 where
  pub read : List ℕ
  pub consumed : Consumes before.rest after.rest read
  pub counted : reading.total ≡ length read
  pub exchanges : List Exchange
  pub begins : BeginsWith read (messages_of exchanges) reading.left
  pub exchanged : Exchanges old exchanges now
  pub written : Appends before.taken after.taken (bytes_of exchanges)
  pub points_are : points ≡ points_of exchanges
