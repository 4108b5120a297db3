-- What stands at the front of bytes.
use Rattle.std.specs.Prelude.{◌≡◌, ℕ, ◌||◌, ◌==◌, List, length, None}
use Rattle.httparse.specs.Grammar.{RequestHead, print_request}
use Rattle.httparse.specs.Spans.{IsWithin, span_bytes}
use Rattle.wk_wire_rules.specs.Heads.{method_of, fields_of, is_multipart, asks_to_close, refusal, body_length}
use Rattle.wk_wire_rules.specs.Messages.{HasHead, IsBad, IsOpen}
use Rattle.wk_http.specs.declared.front.Accepted.{Accepted as Kept}
use Rattle.wk_http.specs.declared.front.Front.{Front}
use Rattle.wk_http.specs.declared.front.Front.TheVariants.{Accepted, Open, Bad}

-- what is kept is what the head says
pub record Describes (bytes : List ℕ) (kept : Kept) (head : RequestHead) : Type 0 where
  pub head_len : kept.head_len ≡ length (print_request head)
  pub body_len : kept.body_len ≡ body_length head
  pub method : kept.method ≡ method_of head.method
  pub within : IsWithin kept.head_len kept.target
  pub target : span_bytes bytes kept.target ≡ head.target
  pub multipart : kept.multipart ≡ is_multipart (fields_of head)
  pub last : kept.last ≡ (head.minor == 0 || asks_to_close (fields_of head))

-- the bytes begin with a whole head that isn't refused
pub record IsAccepted (bytes : List ℕ) (kept : Kept) : Type 0 where
  pub head : RequestHead
  pub rest : List ℕ
  pub reads : HasHead bytes head rest
  pub accepted : refusal head ≡ None
  pub describes : Describes bytes kept head

-- a whole head, too few bytes for one, or a bad place
abbrev pub IsFront : List ℕ → Front → Type 0
IsFront bytes (Accepted kept) = IsAccepted bytes kept
IsFront bytes Open = IsOpen bytes
IsFront bytes (Bad status) = IsBad bytes status
