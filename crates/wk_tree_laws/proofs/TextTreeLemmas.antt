-- The items of a text of UTF-8 are texts of UTF-8.
use Rattle.std.proofs.Common.{◌≡◌, ℕ, zero, suc, ◌-◌, ◌==◌, true, false, if◌then◌else◌, List, [], ◌∷◌, ◌++◌, map, flat_map, codes, Option, Some, None, refl, ap, sym, subst, ◌∙◌, arith, append_assoc, append-nil, IsUtf8, lit<}
use Rattle.std.specs.List.{AllByRecursion}
use Rattle.wk_tree_laws.proofs.CutLemmas.{IsAsciiByte, ascii-utf8, front-before_ascii, back-at_ascii, behind_ascii, back-utf8, front-utf8, front-before_utf8}
use Rattle.wk_tree_laws.proofs.PieceLemmas.{all-append, all-front, all-back, entry_source, entries_source, ByOpening, entries_alone, opened, by_opening, ByClosing, without, parted, by_closing}
use Rattle.wk_tree_laws.proofs.ReductionLemmas.{step-none, step-parted}
use Rattle.wk_tree_laws.proofs.ListLemmas.{entries-text, plain_entries-source}
use Rattle.wk_tree_laws.proofs.TextAtomLemmas.{EndsUtf8, IsText, IsTextSource, atoms-texts}
use Rattle.wk_tree_laws.proofs.TreeLemmas.{merged-source, tree-source}
use Rattle.wk_tree_laws.specs.Places.{AreNotBothPlain, IsMerged}
use Rattle.wk_tree_rules.specs.Atoms.{Atom, atoms}
use Rattle.wk_tree_rules.specs.Reduction.{Delimiter, braces, brackets, Run, Piece, entry, opening, closing, piece_by, piece_of, pieces_of, plain_opening, plain_closing, first_delimiters, last_delimiters, left_opening, left_closing, AtOpening, most_height, node_width, kind_by_width, as_node, as_brackets, as_plain, matched, answered, step, steps, closing_delimiters, reduced}
use Rattle.wk_tree_rules.specs.Selection.{selected}
use Rattle.wk_tree_rules.specs.Tree.{item_of, tree, Split, split_by, split_at_bars, name_by, split_at_equals, part_of, Node, nodes_of, content_nodes, nodes, part_lists, node_lists, lists}
use Rattle.wk_tree_rules.specs.Trees.{Item, NodeKind, template, argument, Content, empty_content, item_then, bar_then, equals_then, Entry, item, bar, equals, entries, content_of, content_height, source_of, content_source, items_source, plain_entry, put_before, merged, plain_items}
use Rattle.wk_tree_rules.specs.declared.AtomKind.{AtomKind}
use Rattle.wk_tree_rules.specs.declared.AtomKind.TheVariants.{LineComment, Comment, Sealed, Ignored, Tag, Open, Close, Bar, Equals, Byte}
use Rattle.wk_tree_rules.specs.declared.Mode.{Mode}

-- ---- items of which all but the plain ones are texts

abbrev mutual
  pub IsFineItem : Item → Type 0
  IsFineItem (Item.plain start source) = Unit {0}
  IsFineItem (Item.sealed start source) = IsText source
  IsFineItem (Item.nothing start source) = IsText source
  IsFineItem (Item.node kind start content) = IsFineContent content

  pub IsFineContent : Content → Type 0
  IsFineContent empty_content = Unit {0}
  IsFineContent (item_then i rest) = IsFineItem i × IsFineContent rest
  IsFineContent (bar_then start rest) = IsFineContent rest
  IsFineContent (equals_then start rest) = IsFineContent rest

abbrev pub IsFineEntry : Entry → Type 0
IsFineEntry (item i) = IsFineItem i
IsFineEntry (bar start) = Unit {0}
IsFineEntry (equals start) = Unit {0}

abbrev pub IsFinePiece : Piece → Type 0
IsFinePiece (entry e) = IsFineEntry e
IsFinePiece (opening run) = Unit {0}
IsFinePiece (closing run) = Unit {0}

abbrev pub AreFine : List Piece → Type 0
AreFine pieces = AllByRecursion IsFinePiece pieces

content-fine : (parts : List Entry) → AreFine (map entry parts) → IsFineContent (content_of parts)
content-fine [] h = tt
content-fine (item i ∷ parts) h = (h.0, content-fine parts h.1)
content-fine (bar start ∷ parts) h = content-fine parts h.1
content-fine (equals start ∷ parts) h = content-fine parts h.1

entries-fine : (content : Content) → IsFineContent content → AllByRecursion IsFineEntry (entries content)
entries-fine empty_content h = tt
entries-fine (item_then i rest) h = (h.0, entries-fine rest h.1)
entries-fine (bar_then start rest) h = (tt, entries-fine rest h)
entries-fine (equals_then start rest) h = (tt, entries-fine rest h)

plain_entry-fine : (e : Entry) → IsFineEntry e → IsFineItem (plain_entry e)
plain_entry-fine (item i) h = h
plain_entry-fine (bar start) h = tt
plain_entry-fine (equals start) h = tt

plain-fine : (parts : List Entry) → AreFine (map entry parts) → AreFine (map (λ e. entry (item (plain_entry e))) parts)
plain-fine [] h = tt
plain-fine (e ∷ parts) h = (plain_entry-fine e h.0, plain-fine parts h.1)

-- ---- the rewriting keeps it

left_opening-fine : (delimiters : Delimiter) (start count : ℕ) → AreFine (left_opening (record { delimiters = delimiters; start = start; count = count }))
left_opening-fine delimiters start zero = tt
left_opening-fine delimiters start (suc zero) = (tt, tt)
left_opening-fine delimiters start (suc (suc n)) = (tt, tt)

left_closing-fine : (delimiters : Delimiter) (start count : ℕ) → AreFine (left_closing (record { delimiters = delimiters; start = start; count = count }))
left_closing-fine delimiters start zero = tt
left_closing-fine delimiters start (suc zero) = (tt, tt)
left_closing-fine delimiters start (suc (suc n)) = (tt, tt)

answer-plain-fine : (before : List Piece) (closer : Run) → AreFine before → AreFine (as_plain before closer)
answer-plain-fine before closer h = all-append IsFinePiece before (entry (item (plain_closing closer)) ∷ []) h (tt, tt)

module _ (left : List Piece) (run : Run) (parts : List Entry) (closer : Run) (h : AreFine (left ++ opening run ∷ map entry parts)) where
  abbrev opener : AtOpening
  opener = record { before = left; run = run; stretch = parts }

  left-fine : AreFine left
  left-fine = all-front IsFinePiece left (opening run ∷ map entry parts) h

  stretch-fine : AreFine (map entry parts)
  stretch-fine = (all-back IsFinePiece left (opening run ∷ map entry parts) h).1

  front-fine : (n : ℕ) → AreFine (left ++ left_opening (first_delimiters n run))
  front-fine n = all-append IsFinePiece left (left_opening (first_delimiters n run)) left-fine (left_opening-fine run.delimiters run.start n)

  behind-fine : (n : ℕ) → AreFine (left_closing (last_delimiters n closer))
  behind-fine n = left_closing-fine closer.delimiters (last_delimiters n closer).start n

  node-fine : AreFine (as_node opener closer)
  node-fine =
      let c : ℕ = node_width run closer in
      all-append IsFinePiece (left ++ left_opening (first_delimiters (run.count - c) run))
      (entry (item (Item.node (kind_by_width c) (last_delimiters c run).start (content_of parts))) ∷ left_closing (last_delimiters (closer.count - c) closer))
      (front-fine (run.count - c)) (content-fine parts stretch-fine, behind-fine (closer.count - c))

  brackets-fine : AreFine (as_brackets opener closer)
  brackets-fine =
      let front : List Piece = left ++ left_opening (first_delimiters (run.count - 2) run) in
      let middle : List Piece = entry (item (plain_opening (last_delimiters 2 run))) ∷ map (λ e. entry (item (plain_entry e))) parts in
      all-append IsFinePiece (front ++ middle) (entry (item (plain_closing (first_delimiters 2 closer))) ∷ left_closing (last_delimiters (closer.count - 2) closer))
      (all-append IsFinePiece front middle (front-fine (run.count - 2)) (tt, plain-fine parts stretch-fine))
      (tt, behind-fine (closer.count - 2))

  matched-fine : (m n : Delimiter) → AreFine (matched m n (left ++ opening run ∷ map entry parts) opener closer)
  matched-fine braces braces =
      elim (content_height (content_of parts) == most_height) as (λ b. AreFine (if b then as_plain (left ++ opening run ∷ map entry parts) closer else as_node opener closer)) [
        | true ↦ answer-plain-fine (left ++ opening run ∷ map entry parts) closer h
        | false ↦ node-fine
      ]
  matched-fine brackets brackets = brackets-fine
  matched-fine braces brackets = answer-plain-fine (left ++ opening run ∷ map entry parts) closer h
  matched-fine brackets braces = answer-plain-fine (left ++ opening run ∷ map entry parts) closer h

by_opening-fine : {before : List Piece} {at : Option AtOpening} (closer : Run) → ByOpening before at → AreFine before → AreFine (elim at [ None ↦ as_plain before closer | Some o ↦ matched o.run.delimiters closer.delimiters before o closer ])
by_opening-fine closer (entries_alone parts) h = answer-plain-fine (map entry parts) closer h
by_opening-fine closer (opened left run parts a) h = matched-fine left run parts closer h run.delimiters closer.delimiters

step-fine : {pieces : List Piece} → ByClosing pieces → AreFine pieces → AreFine (step pieces)
step-fine {pieces = pieces} (without none) h = subst AreFine (sym (step-none pieces none)) h
step-fine (parted before run behind none) h =
    subst AreFine (sym (step-parted before run behind none))
    (all-append IsFinePiece (answered before run) behind
    (by_opening-fine run (by_opening before none) (all-front IsFinePiece before (closing run ∷ behind) h))
    (all-back IsFinePiece before (closing run ∷ behind) h).1)

steps-fine : (n : ℕ) (pieces : List Piece) → AreFine pieces → AreFine (steps n pieces)
unfolding steps
steps-fine zero pieces h = h
steps-fine (suc n) pieces h = steps-fine n (step pieces) (step-fine (by_closing pieces) h)

reduced-fine : (pieces : List Piece) → AreFine pieces → AreFine (reduced pieces)
unfolding reduced
reduced-fine pieces h = steps-fine (closing_delimiters pieces) pieces h

piece_by-fine : (kind : AtomKind) (atom : Atom) → IsTextSource kind atom.source → IsFinePiece (piece_by kind atom)
piece_by-fine LineComment atom h = h
piece_by-fine Comment atom h = h
piece_by-fine Sealed atom h = h
piece_by-fine Ignored atom h = h
piece_by-fine Tag atom h = h
piece_by-fine Open atom h = tt
piece_by-fine Close atom h = tt
piece_by-fine Bar atom h = tt
piece_by-fine Equals atom h = tt
piece_by-fine Byte atom h = tt

pieces_by-fine : (atoms_found : List Atom) → AllByRecursion (λ (a : Atom). IsTextSource a.kind a.source) atoms_found → AreFine (map piece_of atoms_found)
pieces_by-fine [] all = tt
pieces_by-fine (atom ∷ atoms_found) all = (piece_by-fine atom.kind atom all.0, pieces_by-fine atoms_found all.1)

-- ---- merged lists

item_of-fine : (piece : Piece) → IsFinePiece piece → IsFineItem (item_of piece)
item_of-fine (entry e) h = plain_entry-fine e h
item_of-fine (opening run) h = tt
item_of-fine (closing run) h = tt

items_of-fine : (pieces : List Piece) → AreFine pieces → AllByRecursion IsFineItem (map item_of pieces)
items_of-fine [] h = tt
items_of-fine (piece ∷ pieces) h = (item_of-fine piece h.0, items_of-fine pieces h.1)

put_before-fine : (i : Item) (items : List Item) → IsFineItem i → AllByRecursion IsFineItem items → AllByRecursion IsFineItem (put_before i items)
put_before-fine (Item.plain start source) [] h k = (tt, tt)
put_before-fine (Item.plain start source) (Item.plain next more ∷ items) h k = (tt, k.1)
put_before-fine (Item.plain start source) (Item.sealed next more ∷ items) h k = (tt, k)
put_before-fine (Item.plain start source) (Item.nothing next more ∷ items) h k = (tt, k)
put_before-fine (Item.plain start source) (Item.node kind next content ∷ items) h k = (tt, k)
put_before-fine (Item.sealed start source) items h k = (h, k)
put_before-fine (Item.nothing start source) items h k = (h, k)
put_before-fine (Item.node kind start content) items h k = (h, k)

merged-fine : (items : List Item) → AllByRecursion IsFineItem items → AllByRecursion IsFineItem (merged items)
merged-fine [] h = tt
merged-fine (i ∷ items) h = put_before-fine i (merged items) h.0 (merged-fine items h.1)

plain_apart : (start next : ℕ) (source more : List ℕ) (items : List Item) → AreNotBothPlain (Item.plain next more) items → AreNotBothPlain (Item.plain start source) items
plain_apart start next source more [] h = tt
plain_apart start next source more (Item.plain a b ∷ items) h = h
plain_apart start next source more (Item.sealed a b ∷ items) h = tt
plain_apart start next source more (Item.nothing a b ∷ items) h = tt
plain_apart start next source more (Item.node kind a b ∷ items) h = tt

put_before-merged : (i : Item) (items : List Item) → IsMerged items → IsMerged (put_before i items)
put_before-merged (Item.plain start source) [] h = (tt, tt)
put_before-merged (Item.plain start source) (Item.plain next more ∷ items) h = (plain_apart start next (source ++ more) more items h.0, h.1)
put_before-merged (Item.plain start source) (Item.sealed next more ∷ items) h = (tt, h)
put_before-merged (Item.plain start source) (Item.nothing next more ∷ items) h = (tt, h)
put_before-merged (Item.plain start source) (Item.node kind next content ∷ items) h = (tt, h)
put_before-merged (Item.sealed start source) items h = (tt, h)
put_before-merged (Item.nothing start source) items h = (tt, h)
put_before-merged (Item.node kind start content) items h = (tt, h)

pub merged-merged : (items : List Item) → IsMerged (merged items)
merged-merged [] = tt
merged-merged (i ∷ items) = put_before-merged i (merged items) (merged-merged items)

-- ---- where items may be cut

-- before a text
front-before_text : (xs source ys : List ℕ) → IsText source → IsUtf8 (xs ++ (source ++ ys)) → IsUtf8 xs
front-before_text xs [] ys t u = absurd (omega (arith, t.some))
front-before_text xs (z ∷ source) ys t u = front-before_utf8 xs z source (source ++ ys) t.utf8 u

-- a part between words of ASCII, the second of which isn't empty, and what follows the second
record IsCut (content whole ys : List ℕ) : Type 0 where
  content_utf8 : IsUtf8 content
  whole_utf8 : IsUtf8 whole
  rest_utf8 : IsUtf8 ys

cut-between : (before content : List ℕ) (b : ℕ) (behind ys : List ℕ) → AllByRecursion IsAsciiByte before → AllByRecursion IsAsciiByte (b ∷ behind) → IsUtf8 ((before ++ (content ++ b ∷ behind)) ++ ys) → IsCut content (before ++ (content ++ b ∷ behind)) ys
cut-between before content b behind ys low lows u =
    let regrouped : (before ++ (content ++ b ∷ behind)) ++ ys ≡ before ++ (content ++ b ∷ (behind ++ ys)) = simp append_assoc in
    let v : IsUtf8 (content ++ b ∷ (behind ++ ys)) = back-utf8 before (content ++ b ∷ (behind ++ ys)) (subst IsUtf8 regrouped u) (ascii-utf8 before low) in
    let w : IsUtf8 ys = back-utf8 (b ∷ behind) ys (back-at_ascii content b (behind ++ ys) lows.0 v) (ascii-utf8 (b ∷ behind) lows) in
    record {
      content_utf8 = front-before_ascii content b (behind ++ ys) lows.0 v;
      whole_utf8 = front-utf8 (before ++ (content ++ b ∷ behind)) ys u w;
      rest_utf8 = w;
    }

cut-node : (kind : NodeKind) (start : ℕ) (content : Content) (ys : List ℕ) → IsUtf8 (source_of (Item.node kind start content) ++ ys) → IsCut (content_source content) (source_of (Item.node kind start content)) ys
unfolding source_of
cut-node template start content ys u = cut-between (codes "{{") (content_source content) 125 (codes "}") ys (lit< tt, (lit< tt, tt)) (lit< tt, (lit< tt, tt)) u
cut-node argument start content ys u = cut-between (codes "{{{") (content_source content) 125 (codes "}}") ys (lit< tt, (lit< tt, (lit< tt, tt))) (lit< tt, (lit< tt, (lit< tt, tt))) u

front-before_node : (xs : List ℕ) (kind : NodeKind) (start : ℕ) (content : Content) (ys : List ℕ) → IsUtf8 (xs ++ (source_of (Item.node kind start content) ++ ys)) → IsUtf8 xs × IsUtf8 (source_of (Item.node kind start content) ++ ys)
unfolding source_of
front-before_node xs template start content ys u =
    (front-before_ascii xs 123 (123 ∷ ((content_source content ++ codes "}}") ++ ys)) (lit< tt) u, back-at_ascii xs 123 (123 ∷ ((content_source content ++ codes "}}") ++ ys)) (lit< tt) u)
front-before_node xs argument start content ys u =
    (front-before_ascii xs 123 (123 ∷ 123 ∷ ((content_source content ++ codes "}}}") ++ ys)) (lit< tt) u, back-at_ascii xs 123 (123 ∷ 123 ∷ ((content_source content ++ codes "}}}") ++ ys)) (lit< tt) u)

-- each item of a merged list that stands for UTF-8 is UTF-8
abbrev pub IsTextItem : Item → Type 0
IsTextItem i = IsUtf8 (source_of i)

plain-each : (start : ℕ) (source : List ℕ) (items : List Item) → AreNotBothPlain (Item.plain start source) items → AllByRecursion IsFineItem items → IsUtf8 (source ++ items_source items) → IsUtf8 source
unfolding source_of
plain-each start source [] apart fine u = subst IsUtf8 (append-nil source) u
plain-each start source (Item.plain s t ∷ items) apart fine u = absurd apart
plain-each start source (Item.sealed s t ∷ items) apart fine u = front-before_text source t (items_source items) fine.0 u
plain-each start source (Item.nothing s t ∷ items) apart fine u = front-before_text source t (items_source items) fine.0 u
plain-each start source (Item.node k s c ∷ items) apart fine u = (front-before_node source k s c (items_source items) u).0

pub each-text : (items : List Item) → IsMerged items → AllByRecursion IsFineItem items → IsUtf8 (items_source items) → AllByRecursion IsTextItem items
unfolding source_of
each-text [] m fine u = tt
each-text (Item.plain start source ∷ items) m fine u =
    let v : IsUtf8 source = plain-each start source items m.0 fine.1 u in
    (v, each-text items m.1 fine.1 (back-utf8 source (items_source items) u v))
each-text (Item.sealed start source ∷ items) m fine u = (fine.0.utf8, each-text items m.1 fine.1 (back-utf8 source (items_source items) u fine.0.utf8))
each-text (Item.nothing start source ∷ items) m fine u = (fine.0.utf8, each-text items m.1 fine.1 (back-utf8 source (items_source items) u fine.0.utf8))
each-text (Item.node kind start content ∷ items) m fine u =
    let cut = cut-node kind start content (items_source items) u in
    (cut.whole_utf8, each-text items m.1 fine.1 cut.rest_utf8)

-- ---- lists of a content

-- entries of which all but the plain ones are texts, and which stand for UTF-8
pub record AreTextEntries (parts : List Entry) : Type 0 where
  pub fine : AllByRecursion IsFineEntry parts
  pub utf8 : IsUtf8 (entries_source parts)

plain_entries-fine : (parts : List Entry) → AllByRecursion IsFineEntry parts → AllByRecursion IsFineItem (map plain_entry parts)
plain_entries-fine [] h = tt
plain_entries-fine (e ∷ parts) h = (plain_entry-fine e h.0, plain_entries-fine parts h.1)

plain_items-texts : (parts : List Entry) → AreTextEntries parts → AllByRecursion IsTextItem (plain_items parts)
plain_items-texts parts h =
    each-text (plain_items parts) (merged-merged (map plain_entry parts)) (merged-fine (map plain_entry parts) (plain_entries-fine parts h.fine))
    (subst IsUtf8 (sym (merged-source (map plain_entry parts) ∙ plain_entries-source parts)) h.utf8)

-- what stands behind the first bar
further_source : List (ℕ × List Entry) → List ℕ
further_source [] = []
further_source ((start, parts) ∷ found) = 124 ∷ (entries_source parts ++ further_source found)

split_by-source : (e : Entry) (split : Split) → entry_source e ++ (entries_source split.first ++ further_source split.further) ≡ entries_source (split_by e split).first ++ further_source (split_by e split).further
unfolding further_source
split_by-source (item i) split = sym (append_assoc (source_of i) (entries_source split.first) (further_source split.further))
split_by-source (bar start) split = refl
split_by-source (equals start) split = refl

split_at_bars-source : (parts : List Entry) → entries_source parts ≡ entries_source (split_at_bars parts).first ++ further_source (split_at_bars parts).further
unfolding further_source
split_at_bars-source [] = refl
split_at_bars-source (e ∷ parts) = ap (λ t. entry_source e ++ t) (split_at_bars-source parts) ∙ split_by-source e (split_at_bars parts)

-- the entries of each part
abbrev AreAllFine : List (ℕ × List Entry) → Type 0
AreAllFine found = AllByRecursion (λ (part : ℕ × List Entry). AllByRecursion IsFineEntry part.1) found

split_by-fine : (e : Entry) (split : Split) → IsFineEntry e → AllByRecursion IsFineEntry split.first × AreAllFine split.further → AllByRecursion IsFineEntry (split_by e split).first × AreAllFine (split_by e split).further
split_by-fine (item i) split h k = ((h, k.0), k.1)
split_by-fine (equals start) split h k = ((h, k.0), k.1)
split_by-fine (bar start) split h k = (tt, (k.0, k.1))

split_at_bars-fine : (parts : List Entry) → AllByRecursion IsFineEntry parts → AllByRecursion IsFineEntry (split_at_bars parts).first × AreAllFine (split_at_bars parts).further
split_at_bars-fine [] h = (tt, tt)
split_at_bars-fine (e ∷ parts) h = split_by-fine e (split_at_bars parts) h.0 (split_at_bars-fine parts h.1)

first-utf8 : (first : List ℕ) (found : List (ℕ × List Entry)) → IsUtf8 (first ++ further_source found) → IsUtf8 first
unfolding further_source
first-utf8 first [] u = subst IsUtf8 (append-nil first) u
first-utf8 first ((start, parts) ∷ found) u = front-before_ascii first 124 (entries_source parts ++ further_source found) (lit< tt) u

further-texts : (found : List (ℕ × List Entry)) → AreAllFine found → IsUtf8 (further_source found) → AllByRecursion (λ (part : ℕ × List Entry). AreTextEntries part.1) found
unfolding further_source
further-texts [] h u = tt
further-texts ((start, parts) ∷ found) h u =
    let v : IsUtf8 (entries_source parts ++ further_source found) = behind_ascii 124 (entries_source parts ++ further_source found) (lit< tt) u in
    let w : IsUtf8 (entries_source parts) = first-utf8 (entries_source parts) found v in
    (record { fine = h.0; utf8 = w }, further-texts found h.1 (back-utf8 (entries_source parts) (further_source found) v w))

-- ---- a name and a value

abbrev IsNamed : List Entry → Option (List Entry × ℕ × List Entry) → Type 0
IsNamed parts None = Unit {0}
IsNamed parts (Some found) = (entries_source parts ≡ entries_source found.0 ++ 61 ∷ entries_source found.2) × AllByRecursion IsFineEntry found.0 × AllByRecursion IsFineEntry found.2

name_by-named : (e : Entry) (parts : List Entry) (later : Option (List Entry × ℕ × List Entry)) → IsFineEntry e → AllByRecursion IsFineEntry parts → IsNamed parts later → IsNamed (e ∷ parts) (name_by e parts later)
name_by-named (item i) parts None h k n = tt
name_by-named (item i) parts (Some found) h k n = (ap (λ t. source_of i ++ t) n.0 ∙ sym (append_assoc (source_of i) (entries_source found.0) (61 ∷ entries_source found.2)), (h, n.1), n.2)
name_by-named (bar start) parts None h k n = tt
name_by-named (bar start) parts (Some found) h k n = (ap (λ t. 124 ∷ t) n.0, (h, n.1), n.2)
name_by-named (equals start) parts later h k n = (refl, tt, k)

split_at_equals-named : (parts : List Entry) → AllByRecursion IsFineEntry parts → IsNamed parts (split_at_equals parts)
split_at_equals-named [] h = tt
split_at_equals-named (e ∷ parts) h = name_by-named e parts (split_at_equals parts) h.0 h.1 (split_at_equals-named parts h.1)

abbrev AreTextItems : List Item → Type 0
AreTextItems items = AllByRecursion IsTextItem items

part_lists-texts : (at : ℕ) (parts : List Entry) → AreTextEntries parts → AllByRecursion AreTextItems (part_lists (part_of (at, parts)))
part_lists-texts at parts h =
    (elim (split_at_equals parts) as (λ found. IsNamed parts found → AllByRecursion AreTextItems (part_lists (elim found [
      | None ↦ record { name = None; value = plain_items parts; start = at }
      | Some f ↦ record { name = Some (plain_items f.0); value = plain_items f.2; start = f.1 }
    ]))) [
      | None ↦ λ n. (plain_items-texts parts h, tt)
      | Some f ↦ λ n.
          let u : IsUtf8 (entries_source f.0 ++ 61 ∷ entries_source f.2) = subst IsUtf8 n.0 h.utf8 in (
            plain_items-texts f.0 (record { fine = n.1; utf8 = front-before_ascii (entries_source f.0) 61 (entries_source f.2) (lit< tt) u }),
            (plain_items-texts f.2 (record { fine = n.2; utf8 = behind_ascii 61 (entries_source f.2) (lit< tt) (back-at_ascii (entries_source f.0) 61 (entries_source f.2) (lit< tt) u) }), tt),
          )
    ]) (split_at_equals-named parts h.fine)

parts-texts : (found : List (ℕ × List Entry)) → AllByRecursion (λ (part : ℕ × List Entry). AreTextEntries part.1) found → AllByRecursion AreTextItems (flat_map part_lists (map part_of found))
parts-texts [] h = tt
parts-texts ((at, parts) ∷ found) h = all-append AreTextItems (part_lists (part_of (at, parts))) (flat_map part_lists (map part_of found)) (part_lists-texts at parts h.0) (parts-texts found h.1)

-- ---- nodes

pub record IsTextContent (n : Node) : Type 0 where
  pub fine : IsFineContent n.content
  pub utf8 : IsUtf8 (content_source n.content)

node_lists-texts : (n : Node) → IsTextContent n → AllByRecursion AreTextItems (node_lists n)
node_lists-texts n h =
    let parts : List Entry = entries n.content in
    let fine = split_at_bars-fine parts (entries-fine n.content h.fine) in
    let u : IsUtf8 (entries_source (split_at_bars parts).first ++ further_source (split_at_bars parts).further) = subst IsUtf8 (entries-text n.content ∙ split_at_bars-source parts) h.utf8 in
    let v : IsUtf8 (entries_source (split_at_bars parts).first) = first-utf8 (entries_source (split_at_bars parts).first) (split_at_bars parts).further u in (
      plain_items-texts (split_at_bars parts).first (record { fine = fine.0; utf8 = v }),
      parts-texts (split_at_bars parts).further (further-texts (split_at_bars parts).further fine.1 (back-utf8 (entries_source (split_at_bars parts).first) (further_source (split_at_bars parts).further) u v)),
    )

-- what follows a part of the end of a text of UTF-8 is an end of it too
ends-behind : (xs ys : List ℕ) → EndsUtf8 (xs ++ ys) → EndsUtf8 ys
ends-behind xs ys h = record { front = h.front ++ xs; whole = subst IsUtf8 (sym (append_assoc h.front xs ys)) h.whole }

ends-of : (xs : List ℕ) → IsUtf8 xs → EndsUtf8 xs
ends-of xs u = record { front = []; whole = u }

mutual
  unfolding nodes_of content_source source_of

  nodes_of-texts : (ys : List ℕ) (i : Item) → IsFineItem i → EndsUtf8 (source_of i ++ ys) → AllByRecursion IsTextContent (nodes_of i)
  nodes_of-texts ys (Item.plain start source) h u = tt
  nodes_of-texts ys (Item.sealed start source) h u = tt
  nodes_of-texts ys (Item.nothing start source) h u = tt
  nodes_of-texts ys (Item.node kind start content) h u =
      let cut = cut-node kind start content ys (front-before_node u.front kind start content ys u.whole).1 in
      (record { fine = h; utf8 = cut.content_utf8 }, content_nodes-texts [] content h (ends-of (content_source content ++ []) (subst IsUtf8 (sym (append-nil (content_source content))) cut.content_utf8)))

  content_nodes-texts : (ys : List ℕ) (content : Content) → IsFineContent content → EndsUtf8 (content_source content ++ ys) → AllByRecursion IsTextContent (content_nodes content)
  content_nodes-texts ys empty_content h u = tt
  content_nodes-texts ys (item_then i rest) h u =
      let v : EndsUtf8 (source_of i ++ (content_source rest ++ ys)) = subst EndsUtf8 (append_assoc (source_of i) (content_source rest) ys) u in
      all-append IsTextContent (nodes_of i) (content_nodes rest) (nodes_of-texts (content_source rest ++ ys) i h.0 v) (content_nodes-texts ys rest h.1 (ends-behind (source_of i) (content_source rest ++ ys) v))
  content_nodes-texts ys (bar_then start rest) h u = content_nodes-texts ys rest h (ends-behind (codes "|") (content_source rest ++ ys) u)
  content_nodes-texts ys (equals_then start rest) h u = content_nodes-texts ys rest h (ends-behind (codes "=") (content_source rest ++ ys) u)

nodes-texts : (items : List Item) → AllByRecursion IsFineItem items → EndsUtf8 (items_source items) → AllByRecursion IsTextContent (nodes items)
nodes-texts [] h u = tt
nodes-texts (i ∷ items) h u = all-append IsTextContent (nodes_of i) (nodes items) (nodes_of-texts (items_source items) i h.0 u) (nodes-texts items h.1 (ends-behind (source_of i) (items_source items) u))

all_lists-texts : (found : List Node) → AllByRecursion IsTextContent found → AllByRecursion AreTextItems (flat_map node_lists found)
all_lists-texts [] h = tt
all_lists-texts (n ∷ found) h = all-append AreTextItems (node_lists n) (flat_map node_lists found) (node_lists-texts n h.0) (all_lists-texts found h.1)

-- ---- trees

pub tree-fine : (mode : Mode) (text : List ℕ) → IsUtf8 (selected mode text) → AllByRecursion IsFineItem (tree mode text)
unfolding tree
tree-fine mode text u =
    let pieces : List Piece = pieces_of mode (selected mode text) in
    merged-fine (map item_of (reduced pieces)) (items_of-fine (reduced pieces) (reduced-fine pieces (pieces_by-fine (atoms mode (selected mode text)) (atoms-texts mode (selected mode text) u))))

tree-merged : (mode : Mode) (text : List ℕ) → IsMerged (tree mode text)
unfolding tree
tree-merged mode text = merged-merged (map item_of (reduced (pieces_of mode (selected mode text))))

-- the items of each list are UTF-8 where the selected text is
pub tree-texts : (mode : Mode) (text : List ℕ) → IsUtf8 (selected mode text) → AllByRecursion (AllByRecursion IsTextItem) (lists (tree mode text))
tree-texts mode text u =
    let v : IsUtf8 (items_source (tree mode text)) = subst IsUtf8 (sym (tree-source mode text)) u in
    (each-text (tree mode text) (tree-merged mode text) (tree-fine mode text u) v, all_lists-texts (nodes (tree mode text)) (nodes-texts (tree mode text) (tree-fine mode text u) (ends-of (items_source (tree mode text)) v)))

-- ---- no list has plain items one behind the other

part_lists-merged : (at : ℕ) (parts : List Entry) → AllByRecursion IsMerged (part_lists (part_of (at, parts)))
part_lists-merged at parts =
    elim (split_at_equals parts) as (λ found. AllByRecursion IsMerged (part_lists (elim found [
      | None ↦ record { name = None; value = plain_items parts; start = at }
      | Some f ↦ record { name = Some (plain_items f.0); value = plain_items f.2; start = f.1 }
    ]))) [
      | None ↦ (merged-merged (map plain_entry parts), tt)
      | Some f ↦ (merged-merged (map plain_entry f.0), (merged-merged (map plain_entry f.2), tt))
    ]

parts-merged : (found : List (ℕ × List Entry)) → AllByRecursion IsMerged (flat_map part_lists (map part_of found))
parts-merged [] = tt
parts-merged ((at, parts) ∷ found) = all-append IsMerged (part_lists (part_of (at, parts))) (flat_map part_lists (map part_of found)) (part_lists-merged at parts) (parts-merged found)

lists-merged : (found : List Node) → AllByRecursion IsMerged (flat_map node_lists found)
lists-merged [] = tt
lists-merged (n ∷ found) =
    all-append IsMerged (node_lists n) (flat_map node_lists found)
    (merged-merged (map plain_entry (split_at_bars (entries n.content)).first), parts-merged (split_at_bars (entries n.content)).further)
    (lists-merged found)

pub tree-lists-merged : (mode : Mode) (text : List ℕ) → AllByRecursion IsMerged (lists (tree mode text))
tree-lists-merged mode text = (tree-merged mode text, lists-merged (nodes (tree mode text)))
