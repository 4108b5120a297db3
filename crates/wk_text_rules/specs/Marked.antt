-- Outputs of an expansion: lists of bytes, each plain or sealed. A sealed byte comes from text between tags as
-- `<nowiki>`, and is nowhere read as markup (MediaWiki's Help:Formatting, 'Nowiki'; that outputs keep the mark is own).
use Rattle.std.specs.Prelude.{ℕ, ◌-◌, ◌==◌, Bool, true, false, List, length, take, drop, map, codes, Option, Some, None, is_some, if◌then◌else◌}
use Rattle.std.specs.List.{list_all, prefix_len, suffix_len}
use Rattle.wk_text_rules.specs.Blank.{is_blank_byte}
use Rattle.wk_text_rules.specs.Shapes.{Shape, word_by, split_at_nearest}

pub data MarkedByte : Type 0 where
  plain : ℕ → MarkedByte
  sealed : ℕ → MarkedByte

-- the byte, without its mark
abbrev pub byte_of : MarkedByte → ℕ
byte_of (plain b) = b
byte_of (sealed b) = b

abbrev pub is_plain : MarkedByte → Bool
is_plain (plain b) = true
is_plain (sealed b) = false

-- plain, and this byte
abbrev pub is_plainly : ℕ → MarkedByte → Bool
is_plainly b (plain a) = a == b
is_plainly b (sealed a) = false

-- plain, and blank
abbrev pub is_plain_blank : MarkedByte → Bool
is_plain_blank (plain b) = is_blank_byte b
is_plain_blank (sealed b) = false

-- the same byte with the same mark
abbrev pub marked_eq : MarkedByte → MarkedByte → Bool
marked_eq (plain a) (plain b) = a == b
marked_eq (plain a) (sealed b) = false
marked_eq (sealed a) (plain b) = false
marked_eq (sealed a) (sealed b) = a == b

-- a text as an output that is plain throughout, or sealed throughout
abbrev pub all_plain : List ℕ → List MarkedByte
all_plain text = map plain text

abbrev pub all_sealed : List ℕ → List MarkedByte
all_sealed text = map sealed text

-- all bytes of an output, without their marks
abbrev pub text_of : List MarkedByte → List ℕ
text_of out = map byte_of out

-- all bytes of an output, where each of them is plain
abbrev pub plain_text_of : List MarkedByte → Option (List ℕ)
plain_text_of out = if list_all is_plain out then Some (text_of out) else None

-- every byte is plain and blank; so is no byte at all
abbrev pub is_blank_output : List MarkedByte → Bool
is_blank_output out = list_all is_plain_blank out

abbrev pub trimmed_output_start : List MarkedByte → List MarkedByte
trimmed_output_start out = drop (prefix_len is_plain_blank out) out

abbrev pub trimmed_output_end : List MarkedByte → List MarkedByte
trimmed_output_end out = take (length out - suffix_len is_plain_blank out) out

-- without the plain blank bytes at both ends
abbrev pub trimmed_output : List MarkedByte → List MarkedByte
trimmed_output out = trimmed_output_end (trimmed_output_start out)

-- the word, in plain bytes one after the other
abbrev pub plainly : List ℕ → Shape MarkedByte
plainly word = word_by marked_eq (all_plain word)

-- whether the word stands somewhere in an output, in plain bytes one after the other
abbrev pub holds_plainly : List ℕ → List MarkedByte → Bool
holds_plainly word out = is_some (split_at_nearest (plainly word) out)

-- whether an output shows an error, as `#iferror` takes it: the tag around the attribute isn't looked at (own)
abbrev pub has_error : List MarkedByte → Bool
has_error out = holds_plainly (codes "class=\"error\"") out
