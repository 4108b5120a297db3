-- The links in an output (MediaWiki's Help:Links and Help:Categories; the profile's own choices are marked own).
use Rattle.std.specs.Prelude.{ℕ, ◌+◌, ◌==◌, pos, Bool, ◌&&◌, not, nat_le, List, [], length, drop, filter, filter_map, codes, Option, Some, None, option_map, option_and_then, if◌then◌else◌}
use Rattle.std.specs.List.{starts_with, take_while}
use Rattle.std.specs.Option.{option_or}
use Rattle.std.specs.Ordering.{int_eq}
use Rattle.wk_text_rules.specs.Blank.{trimmed}
use Rattle.wk_text_rules.specs.Marked.{MarkedByte, is_plain, byte_of, text_of, plainly, holds_plainly}
use Rattle.wk_text_rules.specs.Shapes.{Span, split_at_nearest, spans}
use Rattle.wk_text_rules.specs.Targets.{is_target_byte}
use Rattle.wk_text_rules.specs.Titles.{PageTitle, normal, is_virtual}

-- What an occurrence links to: a page; a category that the page becomes a member of, with the sort key prefix
-- that the label gives; or nothing that a table keeps.
pub data Link : Type 0 where
  page : PageTitle → Link
  member : PageTitle → List ℕ → Link
  nothing : Link

-- an occurrence of a link: its first byte, the byte after its last, and its link
pub record Occurrence : Type 0 where
  pub start : ℕ
  pub end : ℕ
  pub link : Link

-- ---- what the brackets hold

-- a plain byte that a target may hold
abbrev pub is_plain_target : MarkedByte → Bool
is_plain_target m = is_plain m && is_target_byte (byte_of m)

-- the most bytes of a label (own)
abbrev pub most_label : ℕ
most_label = 2097152

-- A label is all up to the nearest plain `]]`; with a plain `[[` in it, or too many bytes, it is none.
abbrev pub is_label : List MarkedByte → Bool
is_label label = not (holds_plainly (codes "[[") label) && nat_le (length label) most_label

-- the brackets' content: the target, the label if there is one, and what follows the brackets
pub record Content : Type 0 where
  pub target : List MarkedByte
  pub label : Option (List MarkedByte)
  pub rest : List MarkedByte

-- a target and `]]`
abbrev pub bare : List MarkedByte → List MarkedByte → Option Content
bare target behind = option_map (λ rest. record { target = target; label = None; rest = rest }) (plainly (codes "]]") behind)

-- a target, a bar, a label and `]]`
abbrev pub labelled : List MarkedByte → List MarkedByte → Option Content
labelled target behind =
    option_and_then (λ found. if is_label found.0 then Some (record { target = target; label = Some found.0; rest = found.1 }) else None)
    (option_and_then (split_at_nearest (plainly (codes "]]"))) (plainly (codes "|") behind))

-- the content of the brackets with which an output begins, if it begins with an occurrence
abbrev pub content : List MarkedByte → Option Content
content out =
    option_and_then
    (λ inside.
    let target = take_while is_plain_target inside in
    let behind = drop (length target) inside in
    option_or (bare target behind) (labelled target behind))
    (plainly (codes "[[") out)

-- ---- what an occurrence links to

-- what a label gives a member as its sort key prefix: its bytes without the newlines, nothing without a label
-- (own: character references stay as they are)
abbrev pub prefix_from : Option (List MarkedByte) → List ℕ
prefix_from None = []
prefix_from (Some label) = filter (λ b. not (b == 10)) (text_of label)

-- A colon before the target makes a page of it. Else a category is joined, a file is shown and kept nowhere,
-- and any other title is a page.
abbrev pub link_by : List ℕ → Option (List MarkedByte) → PageTitle → Link
link_by target label title =
    if is_virtual title then nothing
    else if starts_with (λ a b. a == b) (trimmed target) (codes ":") then page title
    else if int_eq title.ns (pos 14) then member title (prefix_from label)
    else if int_eq title.ns (pos 6) then nothing
    else page title

-- what a target with a label links to: nothing where it names no title, or one in a negative namespace
abbrev pub link_of : List ℕ → Option (List MarkedByte) → Link
link_of target label = elim (normal target (pos 0)) [ None ↦ nothing | Some title ↦ link_by target label title ]

-- ---- the occurrences

-- at a place an occurrence begins, or none does and one byte is passed over
abbrev pub link_at : Option MarkedByte → List MarkedByte → Option Link × List MarkedByte
link_at before out = elim (content out) [
  | Some c ↦ (Some (link_of (text_of c.target) c.label), c.rest)
  | None ↦ (None, drop 1 out)
]

abbrev pub occurrence_of : Span (Option Link) MarkedByte → Option Occurrence
occurrence_of span =
    option_map (λ link. record { start = span.start; end = span.start + length span.source; link = link }) span.kind

-- The occurrences of an output, from the left. After one the search goes on behind it, and at a place where none
-- begins one byte further.
unfoldable pub occurrences : List MarkedByte → List Occurrence
occurrences out = filter_map occurrence_of (spans link_at out)
