-- How long the sources of a node's parts are.
use Rattle.std.proofs.Common.{◌≡◌, ℕ, suc, ◌+◌, List, [], ◌∷◌, length, map, Option, Some, None, refl, ap, ◌∙◌, arith, length-append}
use Rattle.wk_tree_laws.proofs.ListLemmas.{entries-text, plain_entries-source}
use Rattle.wk_tree_laws.proofs.PieceLemmas.{entry_source, entries_source}
use Rattle.wk_tree_laws.proofs.TreeLemmas.{merged-source}
use Rattle.wk_tree_rules.specs.Tree.{Part, Split, part_of, name_by, split_at_bars, split_at_equals, split_by, title_part, further_parts}
use Rattle.wk_tree_rules.specs.Trees.{Item, Content, entries, Entry, item, bar, equals, content_source, plain_entry, plain_items, items_source}

abbrev pub size : List Item → ℕ
size items = length (items_source items)

-- a part, with its equals sign where it has a name
abbrev pub size_by : Option (List Item) → List Item → ℕ
size_by None value = size value
size_by (Some name) value = size name + suc (size value)

-- parts, each with the bar before it
abbrev pub parts_size : List Part → ℕ
parts_size [] = 0
parts_size (part ∷ parts) = suc (size_by part.name part.value + parts_size parts)

abbrev entries_size : List Entry → ℕ
entries_size parts = length (entries_source parts)

entries-cons : (e : Entry) (parts : List Entry) → entries_size (e ∷ parts) ≡ length (entry_source e) + entries_size parts
entries-cons e parts = length-append (entry_source e) (entries_source parts)

plain-size : (parts : List Entry) → size (plain_items parts) ≡ entries_size parts
plain-size parts = ap length (merged-source (map plain_entry parts) ∙ plain_entries-source parts)

-- ---- a part split at its equals sign

abbrev Found : Type 0
Found = Option (List Entry × ℕ × List Entry)

abbrev found_size : List Entry → Found → ℕ
found_size parts None = entries_size parts
found_size parts (Some found) = entries_size found.0 + suc (entries_size found.2)

put_name-size : (e : Entry) (parts : List Entry) (later : Found) → found_size parts later ≡ entries_size parts → found_size (e ∷ parts) (name_by e parts later) ≡ entries_size (e ∷ parts)
put_name-size (item i) parts None h = refl
put_name-size (item i) parts (Some found) h = omega (arith, h, entries-cons (item i) parts, entries-cons (item i) found.0)
put_name-size (bar start) parts None h = refl
put_name-size (bar start) parts (Some found) h = omega (arith, h, entries-cons (bar start) parts, entries-cons (bar start) found.0)
put_name-size (equals start) parts later h =
    let one : length (entry_source (equals start)) ≡ 1 = refl in
    let none : entries_size [] ≡ 0 = refl in
    omega (arith, one, none, entries-cons (equals start) parts)

split-size : (parts : List Entry) → found_size parts (split_at_equals parts) ≡ entries_size parts
split-size [] = refl
split-size (e ∷ parts) = put_name-size e parts (split_at_equals parts) (split-size parts)

abbrev part_by : ℕ → List Entry → Found → Part
part_by start parts found = elim found [
  | None ↦ record { name = None; value = plain_items parts; start = start }
  | Some found ↦ record { name = Some (plain_items found.0); value = plain_items found.2; start = found.1 }
]

part_by-size : (start : ℕ) (parts : List Entry) (found : Found) → size_by (part_by start parts found).name (part_by start parts found).value ≡ found_size parts found
part_by-size start parts None = plain-size parts
part_by-size start parts (Some found) = omega (arith, plain-size found.0, plain-size found.2)

part-size : (start : ℕ) (parts : List Entry) → size_by (part_of (start, parts)).name (part_of (start, parts)).value ≡ entries_size parts
part-size start parts = part_by-size start parts (split_at_equals parts) ∙ split-size parts

-- ---- a content split at its bars

abbrev split_size : Split → ℕ
split_size split = entries_size split.first + parts_size (map part_of split.further)

split_by-size : (e : Entry) (split : Split) → split_size (split_by e split) ≡ length (entry_source e) + split_size split
split_by-size (item i) split = omega (arith, entries-cons (item i) split.first)
split_by-size (equals start) split = omega (arith, entries-cons (equals start) split.first)
split_by-size (bar start) split =
    let one : length (entry_source (bar start)) ≡ 1 = refl in
    let none : entries_size [] ≡ 0 = refl in
    omega (arith, one, none, part-size (start + 1) split.first)

bars-size : (parts : List Entry) → split_size (split_at_bars parts) ≡ entries_size parts
bars-size [] = refl
bars-size (e ∷ parts) = split_by-size e (split_at_bars parts) ∙ omega (arith, bars-size parts, entries-cons e parts)

-- the title part and the further parts, with the bars between, are the content
pub content-size : (content : Content) → size (title_part content) + parts_size (further_parts content) ≡ length (content_source content)
content-size content =
    let parts : List Entry = entries content in
    omega (arith, plain-size (split_at_bars parts).first, bars-size parts, ap length (entries-text content))
