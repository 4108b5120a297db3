-- The places of a link's brackets in the bytes that are seen of an output (own).
use Rattle.std.specs.Prelude.{◌≡◌, ◌≢◌, ℕ, ◌+◌, ◌-◌, ◌≤◌, ◌<◌, true, false, List, drop, slice_index, Option, Some, None, option_map, unwrap_or}
use Rattle.std.specs.List.{prefix_len}
use Rattle.wk_text_rules.specs.Marked.{MarkedByte}
use Rattle.wk_text_rules.specs.Occurrences.{Content, most_label}
use Rattle.wk_links.specs.declared.brackets.Brackets.{Brackets}
use Rattle.wk_links.specs.Pairs.{pair_at, IsNearestLabelEnd, HasNoLabelEnd}
use Rattle.wk_links.specs.Parts.{part}
use Rattle.wk_text_rules.specs.Targets.{is_target_byte}

-- the place behind the target of brackets that begin at a place
abbrev pub target_end_of : List ℕ → ℕ → ℕ
target_end_of bytes start = start + 2 + prefix_len is_target_byte (drop (start + 2) bytes)

-- `]]` stands behind the target, or a bar and a label that isn't too long
abbrev pub IsClosed : List ℕ → ℕ → Option ℕ → Type 0
IsClosed bytes target_end None = pair_at 93 bytes target_end ≡ true
IsClosed bytes target_end (Some label_end) =
    (pair_at 93 bytes target_end ≡ false) × (slice_index bytes target_end ≡ 124) × IsNearestLabelEnd bytes (target_end + 1) label_end
    × (label_end - (target_end + 1) ≤ most_label)

-- these are the brackets that begin at a place
pub record IsBracketsAt (bytes : List ℕ) (start : ℕ) (b : Brackets) : Type 0 where
  pub start_is : b.start ≡ start
  pub opens : pair_at 91 bytes start ≡ true
  pub target_end_is : b.target_end ≡ target_end_of bytes start
  pub closes : IsClosed bytes b.target_end b.label_end

-- the place behind the brackets
abbrev pub end_of : Brackets → ℕ
end_of b = unwrap_or b.label_end b.target_end + 2

-- what the brackets hold of an output
abbrev pub content_in : List MarkedByte → Brackets → Content
content_in out b =
    record {
      target = part out (b.start + 2) b.target_end;
      label = option_map (part out (b.target_end + 1)) b.label_end;
      rest = drop (end_of b) out;
    }

-- why no brackets begin at a place
pub data HasNoBrackets (bytes : List ℕ) (start : ℕ) : Type 0 where
  no_opening : pair_at 91 bytes start ≡ false → HasNoBrackets bytes start
  no_bar : pair_at 93 bytes (target_end_of bytes start) ≡ false → slice_index bytes (target_end_of bytes start) ≢ 124 → HasNoBrackets bytes start
  no_label_end : pair_at 93 bytes (target_end_of bytes start) ≡ false → HasNoLabelEnd bytes (target_end_of bytes start + 1) → HasNoBrackets bytes start
  long_label : (label_end : ℕ) → pair_at 93 bytes (target_end_of bytes start) ≡ false → IsNearestLabelEnd bytes (target_end_of bytes start + 1) label_end
      → most_label < label_end - (target_end_of bytes start + 1) → HasNoBrackets bytes start
