-- How a session over a connection with a replica goes and ends (own): as one with a wiki does, but that no moment of a clock is taken,
-- no entry is made, and no refresh step stands behind a reply.
use Rattle.std.specs.Prelude.{◌≡◌, ◌≢◌, ℕ, ◌+◌, ◌^◌, ◌<◌, ◌≤◌, true, List, [], ◌∷◌, ◌++◌, length, map, flat_map, Option}
use Rattle.std.specs.Option.{option_to_list}
use Rattle.std.specs.Io.KnownBytes.{Appends, Consumes, IsAtEnd}
use Rattle.wk_wire_rules.specs.Heads.{Message}
use Rattle.wk_wire_rules.specs.Messages.{IsMessage, IsOpen, Messages, between, within, closed, bad}
use Rattle.wk_wire_rules.specs.Responses.{response}
use Rattle.wk_wiki_rules.specs.Passes.{PassSeen}
use Rattle.wk_http.specs.declared.report.Refresh.{Refresh}
use Rattle.wk_http.specs.declared.report.SessionEnd.{SessionEnd}
use Rattle.wk_http.specs.declared.report.SessionEnd.TheVariants.{PeerEnd, Cut, Closed, Bad, Bound, Memory}
use Rattle.wk_session_rules.specs.Points.{GoesOn}
use Rattle.wk_session_rules.specs.Replies.{Reply, sent}
use Rattle.wk_session_rules.specs.Sessions.{AppendsPart, BeginsWith, IsReadingEnd, IsWritingEnd}
use Rattle.wk_replica_reads.specs.Answers.{IsReplyTo}

-- ---- the connection

-- Each part where it is told: the bytes that are left to read, and those that were taken.
pub record LinkSeen : Type 0 where
  pub rest : Option (List ℕ)
  pub taken : Option (List ℕ)

-- ---- messages and their replies

-- a message with its reply
pub record Exchange : Type 0 where
  pub message : Message
  pub reply : Reply

-- One after the other; the pass makes no entry.
pub data Exchanges : PassSeen → List Exchange → PassSeen → Type 0 where
  none : {pass : PassSeen} → Exchanges pass [] pass
  then : {old middle new : PassSeen} {exchange : Exchange} {later : List Exchange} →
      IsReplyTo old middle exchange.message exchange.reply → GoesOn old middle [] → Exchanges middle later new → Exchanges old (exchange ∷ later) new

abbrev pub messages_of : List Exchange → List Message
messages_of exchanges = map (λ (x : Exchange). x.message) exchanges

-- the bytes of all replies
abbrev pub bytes_of : List Exchange → List ℕ
bytes_of exchanges = flat_map (λ (x : Exchange). sent x.message x.reply) exchanges

-- the points that replies show
abbrev pub points_of : List Exchange → List ℕ
points_of exchanges = flat_map (λ (x : Exchange). option_to_list x.reply.point) exchanges

-- ---- ends

-- How a session that read these bytes and answered so ended, between what its pass had seen behind that and what it has seen last; and
-- the points that were shown besides.
pub data EndsSo (read : List ℕ) (exchanges : List Exchange) (served last : PassSeen) (before after : LinkSeen) : SessionEnd → List ℕ → Type 0 where
  -- the input ended between messages
  peer_end : Messages read (messages_of exchanges) between → IsAtEnd after.rest → served ≡ last →
      Appends before.taken after.taken (bytes_of exchanges) → EndsSo read exchanges served last before after PeerEnd []
  -- the input ended within a message
  cut : Messages read (messages_of exchanges) within → IsAtEnd after.rest → served ≡ last →
      Appends before.taken after.taken (bytes_of exchanges) → EndsSo read exchanges served last before after Cut []
  -- a message was the last
  ends_closed : Messages read (messages_of exchanges) closed → served ≡ last →
      Appends before.taken after.taken (bytes_of exchanges) → EndsSo read exchanges served last before after Closed []
  -- a bad place was met, and its status sent
  ends_bad : {status : ℕ} → Messages read (messages_of exchanges) (bad status) → served ≡ last →
      Appends before.taken after.taken (bytes_of exchanges ++ response status [] true) → EndsSo read exchanges served last before after (Bad status) []
  -- a bad place was met, and its status not sent in full
  bad_unsent : {status : ℕ} {end : SessionEnd} → IsWritingEnd end → Messages read (messages_of exchanges) (bad status) → served ≡ last →
      AppendsPart before.taken after.taken (bytes_of exchanges) (response status [] true) → EndsSo read exchanges served last before after end []
  -- no more could be read; all whole messages were answered, but where memory was wanting
  unread : {left : List ℕ} {end : SessionEnd} → IsReadingEnd end → (end ≡ Bound → 2 ^ 40 ≤ length read) →
      BeginsWith read (messages_of exchanges) left → (end ≢ Memory → IsOpen left) → served ≡ last →
      Appends before.taken after.taken (bytes_of exchanges) → EndsSo read exchanges served last before after end []
  -- a reply wasn't sent in full
  unsent : {left rest : List ℕ} {message : Message} {reply : Reply} {end : SessionEnd} → IsWritingEnd end →
      BeginsWith read (messages_of exchanges) left → IsMessage left message rest →
      IsReplyTo served last message reply → GoesOn served last [] →
      AppendsPart before.taken after.taken (bytes_of exchanges) (sent message reply) →
      EndsSo read exchanges served last before after end (option_to_list reply.point)

-- ---- sessions

-- A session by its report: its pass looked how far the journal had come; then the messages of what it read were answered, one after the
-- other and in their order.
pub record IsReadSession (old new : PassSeen) (before after : LinkSeen) (end : SessionEnd) (points : List ℕ) (jobs : ℕ) (refreshes : List (ℕ × Refresh)) : Type 0 where
  pub read : List ℕ
  pub consumed : Consumes before.rest after.rest read
  -- no more than 2^40 bytes and one piece
  pub few : length read < 2 ^ 40 + 2 ^ 13
  pub begun : PassSeen
  pub looked : GoesOn old begun []
  pub exchanges : List Exchange
  pub served : PassSeen
  pub exchanged : Exchanges begun exchanges served
  pub more_points : List ℕ
  pub ends : EndsSo read exchanges served new before after end more_points
  pub points_are : points ≡ points_of exchanges ++ more_points
  -- nothing is refreshed
  pub no_jobs : jobs ≡ 0
  pub no_refreshes : refreshes ≡ []
