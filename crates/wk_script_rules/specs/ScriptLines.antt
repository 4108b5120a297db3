-- What a line of a script is (own).
use Rattle.std.specs.Prelude.{ℕ, Bool, true, false, List, [], ◌∷◌, ◌++◌, bytes_eq, codes, Option, Some, None, unwrap_or, option_map, option_and_then, if◌then◌else◌}
use Rattle.wk_text_rules.specs.Decimal.{decimal_number}
use Rattle.wk_text_rules.specs.Shapes.{exactly}
use Rattle.wk_request_rules.specs.Requests.{ParsedRequest, valid}
use Rattle.wk_request_rules.specs.Reading.{first_some, requested}
use Rattle.wk_answer_rules.specs.Answers.{asks_to_save}

pub data ScriptLine : Type 0 where
  -- no bytes: it has no reply
  empty_line : ScriptLine
  -- more bytes than a line may have
  long_line : ScriptLine
  -- a request, by what its query says; it counts as posted
  api_line : ParsedRequest → ScriptLine
  claim_line : ScriptLine
  -- with a ticket
  read_line : ℕ → ScriptLine
  finish_line : ℕ → ScriptLine
  giveback_line : ℕ → ScriptLine
  fan_line : ScriptLine
  restart_line : ScriptLine
  -- any other line
  unknown_line : ScriptLine

-- the line is this word
abbrev pub is_word : List ℕ → ScriptLine → List ℕ → Option ScriptLine
is_word word meant line = if bytes_eq line word then Some meant else None

-- the line is this word, one space and a ticket, which is a decimal number
abbrev pub with_ticket : List ℕ → (ℕ → ScriptLine) → List ℕ → Option ScriptLine
with_ticket word meant line = option_map meant (option_and_then decimal_number (exactly (word ++ codes " ") line))

-- the line is `api` and one space, and all the rest is a query
abbrev pub as_request : List ℕ → Option ScriptLine
as_request line = option_map (λ query. api_line (requested query [] true)) (exactly (codes "api ") line)

-- the first of the forms that are known
abbrev pub known_line : List ℕ → Option ScriptLine
known_line line = first_some (
    as_request line
    ∷ is_word (codes "claim") claim_line line
    ∷ with_ticket (codes "read") read_line line
    ∷ with_ticket (codes "finish") finish_line line
    ∷ with_ticket (codes "giveback") giveback_line line
    ∷ is_word (codes "fan") fan_line line
    ∷ is_word (codes "restart") restart_line line
    ∷ [])

-- What a line is, as lines are cut: nothing stands in the place of a line that is too long.
unfoldable pub script_line : Option (List ℕ) → ScriptLine
script_line None = long_line
script_line (Some []) = empty_line
script_line (Some (b ∷ bytes)) = unwrap_or (known_line (b ∷ bytes)) unknown_line

-- One moment of the clock is taken for each request that is an edit or a delete, also where the answer is an error.
-- Parameters that ask nothing take none.
abbrev pub takes_moment : ScriptLine → Bool
takes_moment (api_line (valid request)) = asks_to_save request.ask
takes_moment _ = false
