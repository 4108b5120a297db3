-- Which title a text names, and how a title is shown (MediaWiki's Help:Namespaces and Manual:Page title;
-- the profile's own choices are marked own). Texts are lists of characters in between, and bytes at both ends.
use Rattle.std.specs.Prelude.{ℕ, ◌-◌, ℤ, pos, negsuc, Bool, true, false, ◌&&◌, ◌||◌, ◌==◌, not, nat_lt, nat_le, List, [], ◌∷◌, ◌++◌, length, take, drop, map, filter, find, chars, encode_utf8_all, bytes_eq, codes, Option, Some, None, option_map, option_and_then, if◌then◌else◌}
use Rattle.std.specs.Cmp.Lexicographic.{slice_cmp}
use Rattle.std.specs.Char.{is_ascii, is_ascii_alphanumeric, is_ascii_hexdigit, to_ascii_lowercase, to_ascii_uppercase}
use Rattle.std.specs.List.{after_first, before_first, join_with_byte, list_all, list_any, prefix_len, slice_index, slice_split, starts_with, suffix_len}
use Rattle.std.specs.Ordering.{int_cmp, int_eq, nat_cmp, ordering_then}
use Rattle.std.specs.declared.cmp.Ordering.{Ordering}
use Rattle.unicode_normalization.specs.Forms.{nfc}

-- a title: the number of its namespace, and its key, which has an underscore for each space
pub record PageTitle : Type 0 where
  pub ns : ℤ
  pub key : List ℕ

-- ---- namespaces

-- each namespace that has a name, as it is shown; main, number 0, has none
abbrev pub named_namespaces : List (ℤ × List ℕ)
named_namespaces =
    (negsuc 1, codes "Media") ∷ (negsuc 0, codes "Special") ∷ (pos 1, codes "Talk") ∷ (pos 2, codes "User")
    ∷ (pos 3, codes "User talk") ∷ (pos 4, codes "Project") ∷ (pos 5, codes "Project talk") ∷ (pos 6, codes "File")
    ∷ (pos 7, codes "File talk") ∷ (pos 8, codes "MediaWiki") ∷ (pos 9, codes "MediaWiki talk")
    ∷ (pos 10, codes "Template") ∷ (pos 11, codes "Template talk") ∷ (pos 12, codes "Help") ∷ (pos 13, codes "Help talk")
    ∷ (pos 14, codes "Category") ∷ (pos 15, codes "Category talk") ∷ []

-- second names, under which a namespace is found and never shown
abbrev pub namespace_aliases : List (ℤ × List ℕ)
namespace_aliases = (pos 6, codes "Image") ∷ (pos 7, codes "Image talk") ∷ []

-- one of the table's numbers, main among them
abbrev pub is_namespace : ℤ → Bool
is_namespace ns = int_eq ns (pos 0) || list_any (λ entry. int_eq ns entry.0) named_namespaces

-- the name as it is shown, empty for main
abbrev pub namespace_name : ℤ → List ℕ
namespace_name ns = elim (find (λ entry. int_eq ns entry.0) named_namespaces) [ None ↦ [] | Some entry ↦ entry.1 ]

abbrev pub underscored : List ℕ → List ℕ
underscored text = map (λ c. if c == 32 then 95 else c) text

abbrev pub with_spaces : List ℕ → List ℕ
with_spaces text = map (λ c. if c == 95 then 32 else c) text

-- the texts are the same but for the case of ASCII letters
abbrev pub same_but_case : List ℕ → List ℕ → Bool
same_but_case a b = bytes_eq (map to_ascii_lowercase a) (map to_ascii_lowercase b)

-- the namespace with this name or second name, written with underscores and in any case
abbrev pub namespace_called : List ℕ → Option ℤ
namespace_called name =
    option_map (λ entry. entry.0) (find (λ entry. same_but_case (underscored entry.1) name) (named_namespaces ++ namespace_aliases))

-- ---- the six rules, each on what the one before it left

abbrev pub is_colon : ℕ → Bool
is_colon c = c == 58

abbrev pub is_underscore : ℕ → Bool
is_underscore c = c == 95

-- U+200E, U+200F and U+202A to U+202E, which order text and can't be seen
abbrev pub is_direction_mark : ℕ → Bool
is_direction_mark c = (nat_le 0x200E c && nat_le c 0x200F) || (nat_le 0x202A c && nat_le c 0x202E)

-- Normalization Form C, by which texts of ASCII stay as they are (The Unicode Standard, D120). The test computes
-- in a moment what the form takes long for.
unfoldable pub to_nfc : List ℕ → List ℕ
to_nfc cs = if list_all is_ascii cs then cs else nfc cs

-- First: the fragment, from the first `#` on, is dropped, and direction marks are; the rest comes to NFC.
abbrev pub without_fragment : List ℕ → List ℕ
without_fragment cs = to_nfc (filter (λ c. not (is_direction_mark c)) (before_first (λ c. c == 35) cs))

-- Second: each run of spaces and underscores is one underscore, and none at the ends (own: no other character
-- counts as a space).
abbrev pub squeezed : List ℕ → List ℕ
squeezed cs = join_with_byte 95 (filter (λ word. nat_lt 0 (length word)) (slice_split (λ c. c == 32 || c == 95) cs))

abbrev pub without_leading_underscores : List ℕ → List ℕ
without_leading_underscores cs = drop (prefix_len is_underscore cs) cs

abbrev pub without_trailing_underscores : List ℕ → List ℕ
without_trailing_underscores cs = take (length cs - suffix_len is_underscore cs) cs

-- Third: a leading colon asks for main, in the place of the default.
abbrev pub after_leading_colon : ℤ × List ℕ → ℤ × List ℕ
after_leading_colon (ns, cs) =
    if starts_with (λ a b. a == b) cs (58 ∷ []) then (pos 0, without_leading_underscores (drop 1 cs)) else (ns, cs)

-- what stands before the first colon, where there is one
abbrev pub prefix_of : List ℕ → Option (List ℕ)
prefix_of cs = if list_any is_colon cs then Some (without_trailing_underscores (before_first is_colon cs)) else None

-- Fourth: a namespace's name before the first colon is that namespace (own: this is done once).
abbrev pub after_namespace : ℤ × List ℕ → ℤ × List ℕ
after_namespace (ns, cs) = elim (option_and_then namespace_called (prefix_of cs)) [
  | None ↦ (ns, cs)
  | Some found ↦ (found, without_leading_underscores (after_first is_colon cs))
]

-- Fifth: a first letter a to z becomes capital (own: no others), and the key comes to NFC again.
abbrev pub capitalized : List ℕ → List ℕ
capitalized [] = []
capitalized (c ∷ cs) = to_ascii_uppercase c ∷ cs

-- Sixth: what a key can't be.

-- some end of the text passes the test
abbrev pub holds : (List ℕ → Bool) → List ℕ → Bool
holds begins [] = begins []
holds begins (c ∷ cs) = begins (c ∷ cs) || holds begins cs

-- `< > [ ] | { }`, a control character of ASCII, or U+FFFD
abbrev pub is_forbidden : ℕ → Bool
is_forbidden c = (nat_lt c 32 || (c == 127 || c == 0xFFFD)) || list_any (λ d. c == d) (codes "<>[]|{}")

abbrev pub begins_with_tildes : List ℕ → Bool
begins_with_tildes cs = starts_with (λ a b. a == b) cs (codes "~~~")

-- `%` and two hexadecimal digits
abbrev pub begins_with_percent_code : List ℕ → Bool
begins_with_percent_code [] = false
begins_with_percent_code (c ∷ []) = false
begins_with_percent_code (c ∷ d ∷ []) = false
begins_with_percent_code (c ∷ d ∷ e ∷ cs) = c == 37 && (is_ascii_hexdigit d && is_ascii_hexdigit e)

abbrev pub is_reference_character : ℕ → Bool
is_reference_character c = is_ascii_alphanumeric c || c == 35

-- `&`, one or more ASCII letters, digits and `#`, and `;` (own)
abbrev pub begins_with_character_reference : List ℕ → Bool
begins_with_character_reference [] = false
begins_with_character_reference (c ∷ cs) =
    let n = prefix_len is_reference_character cs in
    c == 38 && (nat_lt 0 n && slice_index cs n == 59)

-- `.` or `..` as a part between slashes, the first and the last part too
abbrev pub has_dot_part : List ℕ → Bool
has_dot_part cs = list_any (λ part. bytes_eq part (codes ".") || bytes_eq part (codes "..")) (slice_split (λ c. c == 47) cs)

-- the key may stand in a title (own: at most 255 bytes in every namespace)
abbrev pub is_legal_key : List ℕ → Bool
is_legal_key cs =
    nat_lt 0 (length cs) && nat_le (length (encode_utf8_all cs)) 255 && not (starts_with (λ a b. a == b) cs (58 ∷ []))
    && not (list_any is_forbidden cs) && not (holds begins_with_tildes cs) && not (holds begins_with_percent_code cs)
    && not (holds begins_with_character_reference cs) && not (has_dot_part cs)

-- The title that a text names, in the default namespace where the text gives none.
unfoldable pub normal : List ℕ → ℤ → Option PageTitle
normal text default_ns =
    let placed = after_namespace (after_leading_colon (default_ns, squeezed (without_fragment (chars text)))) in
    let key = to_nfc (capitalized placed.1) in
    if is_legal_key key then Some (record { ns = placed.0; key = encode_utf8_all key }) else None

-- ---- titles

-- Titles are in order by the number of the namespace, and then by the bytes of the key (own).
abbrev pub title_cmp : PageTitle → PageTitle → Ordering
title_cmp a b = ordering_then (int_cmp a.ns b.ns) (slice_cmp nat_cmp a.key b.key)

-- the same title, as a test
abbrev pub title_eq : PageTitle → PageTitle → Bool
title_eq a b = int_eq a.ns b.ns && bytes_eq a.key b.key

-- Media and Special, in which no page can be
abbrev pub is_virtual : PageTitle → Bool
is_virtual title = elim title.ns [ pos n ↦ false | negsuc n ↦ true ]

-- The shown form: the namespace's name and a colon, nothing in main, then the key with spaces for underscores.
unfoldable pub shown : PageTitle → List ℕ
shown title =
    let name = namespace_name title.ns in
    (if length name == 0 then [] else name ++ 58 ∷ []) ++ with_spaces title.key

-- The title is one that a text can name: its shown form names it.
abbrev pub is_normal : PageTitle → Bool
is_normal title = elim (normal (shown title) (pos 0)) [ None ↦ false | Some named ↦ title_eq named title ]

-- the title is one that a page can have
abbrev pub is_page_title : PageTitle → Bool
is_page_title title = is_normal title && not (is_virtual title)
