-- What comes of a message of a session (own).
use Rattle.std.specs.Prelude.{◌≡◌, ◌⊎◌, ℕ, List, [], ◌∷◌, ◌++◌, length, Result, Ok, Err}
use Rattle.std.specs.Option.{option_to_list}
use Rattle.std.specs.Io.KnownBytes.{Appends, Consumes}
use Rattle.wk_wire_rules.specs.Heads.{Message}
use Rattle.wk_wiki_rules.specs.Events.{Event}
use Rattle.wk_wiki_rules.specs.Passes.{PassSeen}
use Rattle.wk_wiki_rules.specs.Starts.{Start}
use Rattle.wk_http.specs.declared.report.Refresh.{Refresh}
use Rattle.wk_http.specs.declared.report.SessionEnd.{SessionEnd}
use Rattle.wk_http.specs.declared.report.SessionEnd.TheVariants.{Memory}
use Rattle.wk_turn.specs.Told.{Begun, Story}
use Rattle.wk_shared.specs.Calls.{IsFree, seen_by}
use Rattle.wk_session_rules.specs.Points.{GoesOn}
use Rattle.wk_session_rules.specs.Replies.{IsReplyTo, Reply, sent}
use Rattle.wk_session_rules.specs.Steps.{IsStep}
use Rattle.wk_session_rules.specs.Exchanges.{Exchange, Exchanges, IsExchange, bytes_of, messages_of, moments_of, points_of, refreshes_of}
use Rattle.wk_session_rules.specs.Sessions.{BeginsWith, GivesMoments, Outside}
use Rattle.wk_sending.specs.Sending.{IsSent}
use Rattle.wk_messages.specs.Reading.{Reading}

-- ---- a message

-- A step was made behind a reply.
pub record IsStepTold (shared : Begun Start) (fails : Type 0) (old new : Story Start Event) (refresh : Refresh) : Type 0 where
  pub free : IsFree shared new
  pub worked : List ℕ
  pub goes : GoesOn (seen_by shared.start old) (seen_by shared.start new) worked
  pub stepped : IsStep fails (seen_by shared.start old) (seen_by shared.start new) refresh worked

-- A reply was made to a message, and this is what was sent of it.
pub record RepliedTo (fails : Type 0) (old new : PassSeen) (message : Message) (before after : Outside) (points more : List ℕ) (result : Result (Unit {0}) SessionEnd) : Type 0 where
  pub moments : List ℕ
  pub reply : Reply
  pub made : List ℕ
  pub replied : IsReplyTo fails old new message moments reply made
  pub goes : GoesOn old new made
  pub given : GivesMoments before.moments after.moments moments
  pub sent_is : IsSent (sent message reply) before.taken after.taken result
  pub rest : after.rest ≡ before.rest
  pub points_are : more ≡ points ++ option_to_list reply.point

-- Memory was wanting before anything was done.
pub record HasDoneNothing (old new : PassSeen) (before after : Outside) (points more : List ℕ) : Type 0 where
  pub pass : new ≡ old
  pub outside : after ≡ before
  pub points_are : more ≡ points

-- what becomes of a message: a reply, or nothing for want of memory
abbrev pub IsReplied : Type 0 → PassSeen → PassSeen → Message → Outside → Outside → List ℕ → List ℕ → Result (Unit {0}) SessionEnd → Type 0
IsReplied fails old new message before after points more result =
    RepliedTo fails old new message before after points more result
    ⊎ ((result ≡ Err Memory) × HasDoneNothing old new before after points more)

-- A message was answered in full, and its step made.
pub record Serves (fails : Type 0) (old new : PassSeen) (message : Message) (before after : Outside) (points more : List ℕ) (refreshes later : List (ℕ × Refresh)) : Type 0 where
  pub exchange : Exchange
  pub message_is : exchange.message ≡ message
  pub is : IsExchange fails old new exchange
  pub given : GivesMoments before.moments after.moments exchange.moments
  pub written : Appends before.taken after.taken (sent message exchange.reply)
  pub rest : after.rest ≡ before.rest
  pub points_are : more ≡ points ++ option_to_list exchange.reply.point
  pub refreshes_are : later ≡ refreshes ++ (exchange.point, exchange.refresh) ∷ []

-- what becomes of a message and its step: where it wasn't answered in full, no step was made
abbrev pub IsServed : Type 0 → PassSeen → PassSeen → Message → Outside → Outside → List ℕ → List ℕ → List (ℕ × Refresh) → List (ℕ × Refresh) → Result (Unit {0}) SessionEnd → Type 0
IsServed fails old new message before after points more refreshes later (Ok done) =
    Serves fails old new message before after points more refreshes later
IsServed fails old new message before after points more refreshes later (Err end) =
    IsReplied fails old new message before after points more (Err end) × (later ≡ refreshes)

-- ---- all messages so far

-- Messages were answered in full, and these bytes that were read are left.
pub record HasServed (fails : Type 0) (old now : PassSeen) (before after : Outside) (reading : Reading) (points : List ℕ) (refreshes : List (ℕ × Refresh)) : Type 0 where
  pub read : List ℕ
  pub consumed : Consumes before.rest after.rest read
  pub counted : reading.total ≡ length read
  pub exchanges : List Exchange
  pub begins : BeginsWith read (messages_of exchanges) reading.left
  pub exchanged : Exchanges fails old exchanges now
  pub given : GivesMoments before.moments after.moments (moments_of exchanges)
  pub written : Appends before.taken after.taken (bytes_of exchanges)
  pub points_are : points ≡ points_of exchanges
  pub refreshes_are : refreshes ≡ refreshes_of exchanges
