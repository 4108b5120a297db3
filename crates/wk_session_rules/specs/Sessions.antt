-- How a session over a connection goes and ends (own).
use Rattle.std.specs.Prelude.{◌≡◌, ◌≢◌, ℕ, ◌+◌, ◌^◌, ◌<◌, ◌≤◌, true, false, List, [], ◌∷◌, ◌++◌, length, take, Option}
use Rattle.std.specs.Option.{option_to_list}
use Rattle.std.specs.Io.KnownBytes.{Appends, Consumes, IsAtEnd}
use Rattle.wk_base.specs.Clock.{Ticks}
use Rattle.wk_wire_rules.specs.Heads.{Message}
use Rattle.wk_wire_rules.specs.Messages.{IsMessage, IsOpen, Messages, between, within, closed, bad}
use Rattle.wk_wire_rules.specs.Responses.{response}
use Rattle.wk_wiki_rules.specs.Passes.{PassSeen}
use Rattle.wk_http.specs.declared.report.Refresh.{Refresh}
use Rattle.wk_http.specs.declared.report.SessionEnd.{SessionEnd}
use Rattle.wk_http.specs.declared.report.SessionEnd.TheVariants.{PeerEnd, Cut, Closed, Bad, ReadFault, WriteFault, Bound, Memory}
use Rattle.wk_session_rules.specs.Points.{GoesOn}
use Rattle.wk_session_rules.specs.Replies.{IsReplyTo, Reply, sent}
use Rattle.wk_session_rules.specs.Exchanges.{Exchange, Exchanges, bytes_of, jobs_done, messages_of, moments_of, points_of, refreshes_of}

-- ---- the outside

-- Each part where it is told: the bytes that are left to read on the link, the clock's moments that are left, and the bytes
-- that the link has taken.
pub record Outside : Type 0 where
  pub rest : Option (List ℕ)
  pub moments : Option (List ℕ)
  pub taken : Option (List ℕ)

-- the clock gives these moments, one after the other
abbrev pub GivesMoments : Option (List ℕ) → Option (List ℕ) → List ℕ → Type 0
GivesMoments left later [] = left ≡ later
GivesMoments left later (moment ∷ moments) = (next : Option (List ℕ)) × Ticks left next moment × GivesMoments next later moments

-- the bytes begin with these messages, none of which is the last, and then these are left
pub data BeginsWith : List ℕ → List Message → List ℕ → Type 0 where
  nothing : {bytes : List ℕ} → BeginsWith bytes [] bytes
  one_more : {bytes rest left : List ℕ} {message : Message} {messages : List Message} →
      IsMessage bytes message rest → message.last ≡ false → BeginsWith rest messages left → BeginsWith bytes (message ∷ messages) left

-- told bytes grow by the first ones, all of them, and then by a prefix of the others, which isn't all of these
abbrev pub AppendsPart : Option (List ℕ) → Option (List ℕ) → List ℕ → List ℕ → Type 0
AppendsPart taken later first others = (k : ℕ) × (k < length others) × Appends taken later (first ++ take k others)

-- ---- ends

-- the reading ended it: a fault, the bound, or want of memory
abbrev pub IsReadingEnd : SessionEnd → Type 0
IsReadingEnd ReadFault = Unit {0}
IsReadingEnd Bound = Unit {0}
IsReadingEnd Memory = Unit {0}
IsReadingEnd _ = ⊥

-- the writing ended it: a fault, or want of memory
abbrev pub IsWritingEnd : SessionEnd → Type 0
IsWritingEnd WriteFault = Unit {0}
IsWritingEnd Memory = Unit {0}
IsWritingEnd _ = ⊥

-- How a session that read these bytes and answered so ended, between what its pass had seen behind that and what it has seen
-- last; and the moments that were taken and the points that were shown besides.
pub data EndsSo (fails : Type 0) (read : List ℕ) (exchanges : List Exchange) (served last : PassSeen) (before after : Outside) : SessionEnd → List ℕ → List ℕ → Type 0 where
  -- the input ended between messages
  peer_end : Messages read (messages_of exchanges) between → IsAtEnd after.rest → served ≡ last →
      Appends before.taken after.taken (bytes_of exchanges) → EndsSo fails read exchanges served last before after PeerEnd [] []
  -- the input ended within a message
  cut : Messages read (messages_of exchanges) within → IsAtEnd after.rest → served ≡ last →
      Appends before.taken after.taken (bytes_of exchanges) → EndsSo fails read exchanges served last before after Cut [] []
  -- a message was the last
  ends_closed : Messages read (messages_of exchanges) closed → served ≡ last →
      Appends before.taken after.taken (bytes_of exchanges) → EndsSo fails read exchanges served last before after Closed [] []
  -- a bad place was met, and its status sent
  ends_bad : {status : ℕ} → Messages read (messages_of exchanges) (bad status) → served ≡ last →
      Appends before.taken after.taken (bytes_of exchanges ++ response status [] true) →
      EndsSo fails read exchanges served last before after (Bad status) [] []
  -- a bad place was met, and its status not sent in full
  bad_unsent : {status : ℕ} {end : SessionEnd} → IsWritingEnd end → Messages read (messages_of exchanges) (bad status) → served ≡ last →
      AppendsPart before.taken after.taken (bytes_of exchanges) (response status [] true) →
      EndsSo fails read exchanges served last before after end [] []
  -- no more could be read; all whole messages were answered, but where memory was wanting
  unread : {left : List ℕ} {end : SessionEnd} → IsReadingEnd end → (end ≡ Bound → 2 ^ 40 ≤ length read) →
      BeginsWith read (messages_of exchanges) left → (end ≢ Memory → IsOpen left) → served ≡ last →
      Appends before.taken after.taken (bytes_of exchanges) → EndsSo fails read exchanges served last before after end [] []
  -- a reply wasn't sent in full
  unsent : {left rest : List ℕ} {message : Message} {moments : List ℕ} {reply : Reply} {saved : List ℕ} {end : SessionEnd} → IsWritingEnd end →
      BeginsWith read (messages_of exchanges) left → IsMessage left message rest →
      IsReplyTo fails served last message moments reply saved → GoesOn served last saved →
      AppendsPart before.taken after.taken (bytes_of exchanges) (sent message reply) →
      EndsSo fails read exchanges served last before after end moments (option_to_list reply.point)

-- ---- sessions

-- A session by its report: from what its pass had seen, or from a later point of the journal, the messages of what it read were
-- answered, one after the other and in their order.
pub record IsSession (fails : Type 0) (old new : PassSeen) (before after : Outside) (end : SessionEnd) (points : List ℕ) (jobs : ℕ) (refreshes : List (ℕ × Refresh)) : Type 0 where
  pub read : List ℕ
  pub consumed : Consumes before.rest after.rest read
  -- no more than 2^40 bytes and one piece
  pub few : length read < 2 ^ 40 + 2 ^ 13
  pub begun : PassSeen
  pub looked : GoesOn old begun []
  pub exchanges : List Exchange
  pub served : PassSeen
  pub exchanged : Exchanges fails begun exchanges served
  pub more_moments : List ℕ
  pub more_points : List ℕ
  pub ends : EndsSo fails read exchanges served new before after end more_moments more_points
  pub given : GivesMoments before.moments after.moments (moments_of exchanges ++ more_moments)
  pub points_are : points ≡ points_of exchanges ++ more_points
  pub jobs_are : jobs ≡ jobs_done refreshes
  pub refreshes_are : refreshes ≡ refreshes_of exchanges
