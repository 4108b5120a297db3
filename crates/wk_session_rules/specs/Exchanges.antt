-- The messages of a session, each answered in full and followed by a refresh step (own).
use Rattle.std.specs.Prelude.{◌≡◌, ℕ, Bool, true, false, List, [], ◌∷◌, ◌++◌, length, map, flat_map, count_by}
use Rattle.std.specs.Option.{option_to_list}
use Rattle.wk_wire_rules.specs.Heads.{Message}
use Rattle.wk_wiki_rules.specs.Passes.{PassSeen}
use Rattle.wk_http.specs.declared.report.Refresh.{Refresh}
use Rattle.wk_http.specs.declared.report.Refresh.TheVariants.{Idle, Fanned, Done, Back, JournalFull, StoreFault, Memory}
use Rattle.wk_session_rules.specs.Points.{GoesOn}
use Rattle.wk_session_rules.specs.Replies.{IsReplyTo, Reply, sent}
use Rattle.wk_session_rules.specs.Steps.{IsStep}

-- a message with its reply, and the refresh step behind it
pub record Exchange : Type 0 where
  pub message : Message
  -- the moments of the clock that were taken for it
  pub moments : List ℕ
  pub reply : Reply
  -- the places of the entries that were made with the reply
  pub saved : List ℕ
  pub refresh : Refresh
  -- the places of the entries that the refresh step made
  pub worked : List ℕ
  -- what the pass has seen behind the step
  pub point : ℕ

-- The pass answered the message, and then made the step.
pub record IsExchange (fails : Type 0) (old new : PassSeen) (exchange : Exchange) : Type 0 where
  pub middle : PassSeen
  pub replied : IsReplyTo fails old middle exchange.message exchange.moments exchange.reply exchange.saved
  pub goes : GoesOn old middle exchange.saved
  pub stepped : IsStep fails middle new exchange.refresh exchange.worked
  pub goes_on : GoesOn middle new exchange.worked
  pub point : exchange.point ≡ length new.journal

-- one after the other
pub data Exchanges (fails : Type 0) : PassSeen → List Exchange → PassSeen → Type 0 where
  none : {pass : PassSeen} → Exchanges fails pass [] pass
  then : {old middle new : PassSeen} {exchange : Exchange} {later : List Exchange} →
      IsExchange fails old middle exchange → Exchanges fails middle later new → Exchanges fails old (exchange ∷ later) new

-- ---- what is told of them

abbrev pub messages_of : List Exchange → List Message
messages_of exchanges = map (λ (x : Exchange). x.message) exchanges

-- the bytes of all replies
abbrev pub bytes_of : List Exchange → List ℕ
bytes_of exchanges = flat_map (λ (x : Exchange). sent x.message x.reply) exchanges

abbrev pub moments_of : List Exchange → List ℕ
moments_of exchanges = flat_map (λ (x : Exchange). x.moments) exchanges

-- the points that replies show
abbrev pub points_of : List Exchange → List ℕ
points_of exchanges = flat_map (λ (x : Exchange). option_to_list x.reply.point) exchanges

abbrev pub refreshes_of : List Exchange → List (ℕ × Refresh)
refreshes_of exchanges = map (λ (x : Exchange). (x.point, x.refresh)) exchanges

-- a refresh was done
abbrev pub is_done : Refresh → Bool
is_done Idle = false
is_done Fanned = false
is_done Done = true
is_done Back = false
is_done JournalFull = false
is_done StoreFault = false
is_done Memory = false

-- how many refreshes were done: so many events Done there are among the session's own entries
abbrev pub jobs_done : List (ℕ × Refresh) → ℕ
jobs_done refreshes = count_by (λ refresh. is_done refresh.1) refreshes

-- the places of all entries that were made
abbrev pub made_by : List Exchange → List ℕ
made_by exchanges = flat_map (λ (x : Exchange). x.saved ++ x.worked) exchanges
