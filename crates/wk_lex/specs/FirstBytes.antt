-- What the first byte of an atom tells.
use Rattle.std.specs.Prelude.{◌≡◌, ◌≢◌, ℕ, ◌<◌, ◌≤◌, ◌⊎◌, ◌==◌, ◌||◌, Bool, true, false, List, length, slice_index, None}
use Rattle.std.specs.Char.{eq_ignore_ascii_case}
use Rattle.wk_tree_rules.specs.Atoms.{after_newline}
use Rattle.wk_tree_rules.specs.Tags.{line_of_comments}
use Rattle.wk_lex.specs.Places.{EndsAt, byte_before}
use Rattle.wk_lex.specs.Spans.{is_mark, IsPlain}

-- an opening brace or bracket
abbrev pub IsOpening : ℕ → Type 0
IsOpening byte = (byte ≡ 123) ⊎ (byte ≡ 91)

-- a closing brace or bracket
abbrev pub IsClosing : ℕ → Type 0
IsClosing byte = (byte ≡ 125) ⊎ (byte ≡ 93)

-- no line of comments begins at a place
abbrev pub IsNoLineAt : List ℕ → ℕ → Type 0
IsNoLineAt text at = EndsAt (after_newline (byte_before at text) line_of_comments) text at None

-- a byte behind a `<` with which neither a comment goes on nor a tag that is known
pub record IsNoTagByte (byte : ℕ) : Type 0 where
  pub bang : byte ≢ 33
  pub slash : byte ≢ 47
  pub n : eq_ignore_ascii_case 110 byte ≡ false
  pub p : eq_ignore_ascii_case 112 byte ≡ false
  pub i : eq_ignore_ascii_case 105 byte ≡ false
  pub o : eq_ignore_ascii_case 111 byte ≡ false

-- a byte that is text within a line
pub record IsInLine (byte : ℕ) : Type 0 where
  pub plain : IsPlain byte
  pub inside : byte ≢ 10

-- whether a byte is no text within a line: a newline or a mark
abbrev pub ends_line : ℕ → Bool
ends_line byte = (byte == 10) || is_mark byte

-- all bytes from a place on up to another are text within a line
abbrev pub AreInLine : List ℕ → ℕ → ℕ → Type 0
AreInLine text from end = (i : ℕ) → from ≤ i → i < end → IsInLine (slice_index text i)

-- The place behind the bytes from another on that are text within a line: all up to it are, and it is the end of the text
-- or a newline or a mark stands there.
pub record IsBehindLine (text : List ℕ) (from end : ℕ) : Type 0 where
  pub within : (from ≤ end) × (end ≤ length text)
  pub line : AreInLine text from end
  pub longest : end < length text → ends_line (slice_index text end) ≡ true
