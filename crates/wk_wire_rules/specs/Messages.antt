-- The messages that a stream of bytes holds, and how it ends (RFC 9112 section 2 and section 6; the limits and the bad
-- places are own).
use Rattle.std.specs.Prelude.{◌≡◌, ◌≢◌, ℕ, ◌≤◌, ◌⊎◌, true, false, List, [], ◌∷◌, ◌++◌, length, All, Some, None}
use Rattle.httparse.specs.Ascii.{space}
use Rattle.httparse.specs.Grammar.{LineEnd, print_blank, IsToken, RequestHead, print_request, ReadsRequest}
use Rattle.wk_wire_rules.specs.Heads.{Message, message_of, body_length, refusal}

-- the bytes in which a head must be whole; the empty lines before it count
abbrev pub most_head : ℕ
most_head = 65536

-- the bytes begin with this head, whole in the first 65,536 of them, and then the rest
abbrev pub HasHead : List ℕ → RequestHead → List ℕ → Type 0
HasHead bytes head rest = ReadsRequest bytes head rest × (length (print_request head) ≤ most_head)

-- The bytes end within the target, which is what follows the method and one space, up to the next space. No byte of
-- it is judged yet, whichever it is (own).
abbrev pub EndsWithinTarget : List ℕ → Type 0
EndsWithinTarget bytes =
    (blank : List LineEnd) × (method : List ℕ) × (target : List ℕ)
    × IsToken method × All (λ b. b ≢ space) target × (bytes ≡ print_blank blank ++ method ++ space ∷ target)

-- Bytes can follow with which a head stands at the front. Bytes that end within the target count as such: they are
-- judged once the space behind it is there, or at 65,536 bytes (own).
abbrev pub CanBegin : List ℕ → Type 0
CanBegin bytes =
    EndsWithinTarget bytes
    ⊎ ((more : List ℕ) × (head : RequestHead) × (rest : List ℕ) × ReadsRequest (bytes ++ more) head rest)

-- The bytes begin with this whole message, and then the rest.
pub record IsMessage (bytes : List ℕ) (message : Message) (rest : List ℕ) : Type 0 where
  pub head : RequestHead
  pub reads : HasHead bytes head (message.body ++ rest)
  pub accepted : refusal head ≡ None
  pub body : length message.body ≡ body_length head
  pub says : message ≡ message_of head message.body

-- The place at the front is bad, with this status: no head can stand there, none is whole in the first 65,536 bytes
-- though these are there, or the head that stands there is refused. So too many headers are bad once the head is whole.
pub data IsBad (bytes : List ℕ) : ℕ → Type 0 where
  no_head : ¬ (CanBegin bytes) → IsBad bytes 400
  too_long : most_head ≤ length bytes → ((head : RequestHead) (rest : List ℕ) → ¬ (HasHead bytes head rest)) → IsBad bytes 400
  refused : {status : ℕ} (head : RequestHead) (rest : List ℕ) → HasHead bytes head rest → refusal head ≡ Some status → IsBad bytes status

-- The bytes so far hold no whole message and no bad place.
pub record IsOpen (bytes : List ℕ) : Type 0 where
  pub no_message : (message : Message) (rest : List ℕ) → ¬ (IsMessage bytes message rest)
  pub no_bad_place : (status : ℕ) → ¬ (IsBad bytes status)

-- How a stream ends: between messages, within one (also where only line ends came), at a message that is the last, or
-- at a bad place with its status.
pub data Ending : Type 0 where
  between : Ending
  within : Ending
  closed : Ending
  bad : ℕ → Ending

-- The stream holds these whole messages, one after the other, and ends so. What follows a message that is the last, or
-- a bad place, is not looked at.
pub data Messages : List ℕ → List Message → Ending → Type 0 where
  ends_between : Messages [] [] between
  ends_within : {bytes : List ℕ} → bytes ≢ [] → IsOpen bytes → Messages bytes [] within
  ends_bad : {bytes : List ℕ} {status : ℕ} → IsBad bytes status → Messages bytes [] (bad status)
  ends_closed : {bytes rest : List ℕ} {message : Message} →
      IsMessage bytes message rest → message.last ≡ true → Messages bytes (message ∷ []) closed
  goes_on : {bytes rest : List ℕ} {message : Message} {messages : List Message} {ending : Ending} →
      IsMessage bytes message rest → message.last ≡ false → Messages rest messages ending →
      Messages bytes (message ∷ messages) ending
