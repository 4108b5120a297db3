-- What a request's head says, and the checks that a whole head must pass (RFC 9110 and RFC 9112; the limits, the
-- checks and their order are own). A head is one of `httparse`'s default grammar for requests.
use Rattle.std.specs.Prelude.{ℕ, Bool, true, false, ◌&&◌, ◌||◌, ◌==◌, not, nat_lt, List, [], ◌∷◌, length, map, filter, codes, bytes_eq, Option, Some, None, if◌then◌else◌}
use Rattle.std.specs.List.{list_all, list_any, before_first, after_first, starts_with}
use Rattle.std.specs.Str.{str_eq_ignore_ascii_case}
use Rattle.httparse.specs.Grammar.{RequestHead}
use Rattle.httparse.specs.Spans.{name_and_value}
use Rattle.wk_text_rules.specs.Decimal.{decimal_number}
use Rattle.wk_wire_rules.specs.declared.Method.{Method}
use Rattle.wk_wire_rules.specs.declared.Method.TheVariants.{Get, Post, Other}

-- ---- fields

-- names and values; a value has no space or tab at its ends (RFC 9112 section 5.1)
abbrev pub Fields : Type 0
Fields = List (List ℕ × List ℕ)

abbrev pub fields_of : RequestHead → Fields
fields_of head = map name_and_value head.fields

-- names have no case (RFC 9110 section 5.1)
abbrev pub is_named : List ℕ → List ℕ × List ℕ → Bool
is_named name field = str_eq_ignore_ascii_case field.0 name

-- the values of all fields of a name, in order
abbrev pub values_of : List ℕ → Fields → List (List ℕ)
values_of name fields = map (λ field. field.1) (filter (is_named name) fields)

-- a field of this name was sent
abbrev pub is_sent : List ℕ → Fields → Bool
is_sent name fields = nat_lt 0 (length (values_of name fields))

-- the text begins with these words, in just this case
abbrev pub begins_with : List ℕ → List ℕ → Bool
begins_with words text = starts_with (λ a b. a == b) text words

-- ---- the length of the body

-- what each `Content-Length` says: a decimal number, or nothing where it is none (RFC 9112 section 6.3; no sign, no
-- leading zero and below 2 ^ 64 is own)
abbrev pub lengths : Fields → List (Option ℕ)
lengths fields = map decimal_number (values_of (codes "content-length") fields)

abbrev pub is_number : ℕ → Option ℕ → Bool
is_number n None = false
is_number n (Some m) = m == n

-- each is a number, and no two differ
abbrev pub agree : List (Option ℕ) → Bool
agree [] = true
agree (None ∷ _) = false
agree (Some n ∷ others) = list_all (is_number n) others

-- what lengths that agree say; without one there is no body
abbrev pub length_said : List (Option ℕ) → ℕ
length_said [] = 0
length_said (None ∷ _) = 0
length_said (Some n ∷ _) = n

-- ---- the method

abbrev pub method_of : List ℕ → Method
method_of token =
    if bytes_eq token (codes "GET") then Get else (if bytes_eq token (codes "POST") then Post else Other)

abbrev pub is_post : Method → Bool
is_post Get = false
is_post Post = true
is_post Other = false

-- ---- the checks of a whole head

abbrev pub most_headers : ℕ
most_headers = 100

abbrev pub most_body : ℕ
most_body = 8388608

-- The status of the first check that fails (RFC 9110 section 15 has the statuses):
-- 400 where there are more than 100 fields; 501 where there is a `Transfer-Encoding`, whatever it says, since no coding is known;
-- 400 where a length is no number, or two differ; 411 where a POST has no length; 413 where the length is too large.
abbrev pub refusal_of : Method → Fields → Option ℕ
refusal_of method fields =
    if nat_lt most_headers (length fields) then Some 400 else
    (if is_sent (codes "transfer-encoding") fields then Some 501 else
    (if not (agree (lengths fields)) then Some 400 else
    (if is_post method && not (is_sent (codes "content-length") fields) then Some 411 else
    (if nat_lt most_body (length_said (lengths fields)) then Some 413 else None))))

abbrev pub refusal : RequestHead → Option ℕ
refusal head = refusal_of (method_of head.method) (fields_of head)

-- the bytes of the body behind a head that isn't refused
abbrev pub body_length : RequestHead → ℕ
body_length head = length_said (lengths (fields_of head))

-- ---- what a message says

pub record Message : Type 0 where
  pub method : Method
  -- the target up to its first `?`, or all of it
  pub path : List ℕ
  -- what stands after that `?`, or nothing
  pub query : List ℕ
  pub body : List ℕ
  -- the body has parts (RFC 2046 section 5.1)
  pub multipart : Bool
  -- no message follows it on the connection
  pub last : Bool

abbrev pub is_question_mark : ℕ → Bool
is_question_mark b = b == 63

-- any of several fields counts; that the option `close` counts as the whole value alone is own (RFC 9110 section 7.6.1)
abbrev pub asks_to_close : Fields → Bool
asks_to_close fields =
    list_any (λ value. str_eq_ignore_ascii_case value (codes "close")) (values_of (codes "connection") fields)

abbrev pub is_multipart : Fields → Bool
is_multipart fields = list_any (begins_with (codes "multipart/")) (values_of (codes "content-type") fields)

-- A message is also the last where its version is HTTP/1.0 (own: whatever its fields say).
abbrev pub message_of : RequestHead → List ℕ → Message
message_of head body = record {
  method = method_of head.method;
  path = before_first is_question_mark head.target;
  query = after_first is_question_mark head.target;
  body = body;
  multipart = is_multipart (fields_of head);
  last = head.minor == 0 || asks_to_close (fields_of head);
}
