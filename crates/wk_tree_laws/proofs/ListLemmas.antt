-- The lists of a tree, its root and its parts, stand in the selected text.
use Rattle.std.proofs.Common.{◌≡◌, ℕ, ◌+◌, ◌-◌, ◌≤◌, List, [], ◌∷◌, ◌++◌, length, map, flat_map, take, drop, codes, Option, Some, None, refl, ap, ap₂, sym, subst, ◌∙◌, arith, append_assoc, append-nil, length-append, length-take, take-append-drop}
use Rattle.std.proofs.Math.Seq.{take-append_seam, drop-append_seam}
use Rattle.std.proofs.lemmas.List.{length-replicate}
use Rattle.std.specs.List.{AllByRecursion}
use Rattle.wk_tree_laws.proofs.AtomLemmas.{IsSourceOf, atoms-sources}
use Rattle.wk_tree_laws.proofs.PieceLemmas.{all-append, all-imp, entry_source, piece_source, entries_source, plain_entry-source}
use Rattle.wk_tree_laws.proofs.PlaceLemmas.{IsEntryAt, IsPieceAt, ArePiecesAt, reduced-at}
use Rattle.wk_tree_laws.proofs.SpanLemmas.{spans-at}
use Rattle.wk_tree_laws.proofs.TreeLemmas.{pieces_of-sound, piece_by-source, merged-source, tree-source}
use Rattle.wk_tree_laws.specs.Places.{AreSpansAt, IsItemAt, IsContentAt, AreItemsAt, start_of, IsPartAt, IsItemIn, AreItemsIn, IsValueIn, IsNodeIn}
use Rattle.wk_tree_rules.specs.Atoms.{Atom, atoms, atom_at}
use Rattle.wk_tree_rules.specs.Reduction.{Piece, entry, opening, closing, piece_by, piece_of, pieces_of, reduced}
use Rattle.wk_tree_rules.specs.Selection.{selected}
use Rattle.wk_tree_rules.specs.Tree.{item_of, tree, Split, split_by, split_at_bars, name_by, split_at_equals, part_of, Node, nodes_of, content_nodes, nodes, part_lists, node_lists, lists}
use Rattle.wk_tree_rules.specs.Trees.{Item, NodeKind, Content, empty_content, item_then, bar_then, equals_then, Entry, item, bar, equals, entries, width, opening_braces, closing_braces, source_of, content_source, items_source, plain_entry, put_before, merged, plain_items}
use Rattle.wk_tree_rules.specs.declared.AtomKind.{AtomKind}
use Rattle.wk_tree_rules.specs.declared.AtomKind.TheVariants.{LineComment, Comment, Sealed, Ignored, Tag, Open, Close, Bar, Equals, Byte}
use Rattle.wk_tree_rules.specs.declared.Mode.{Mode}

-- ---- parts of a text

-- a text about a part of it
pub record About (text : List ℕ) (at : ℕ) (part : List ℕ) : Type 0 where
  pub before : List ℕ
  pub behind : List ℕ
  pub whole : text ≡ before ++ (part ++ behind)
  pub place : length before ≡ at

pub About-IsPartAt : (text : List ℕ) (at : ℕ) (part : List ℕ) → About text at part → IsPartAt text at part
About-IsPartAt text at part a = record {
  within = omega (arith, ap length a.whole, length-append a.before (part ++ a.behind), length-append part a.behind, a.place);
  same =
      let n : (at + length part) - at ≡ length part = omega arith in
      ap (λ k. take k (drop at text)) n
      ∙ ap (λ t. take (length part) (drop at t)) a.whole
      ∙ ap (λ k. take (length part) (drop k (a.before ++ (part ++ a.behind)))) (sym a.place)
      ∙ ap (take (length part)) (drop-append_seam a.before (part ++ a.behind))
      ∙ take-append_seam part a.behind;
}

pub About-front : (text : List ℕ) (at : ℕ) (xs ys : List ℕ) → About text at (xs ++ ys) → About text at xs
About-front text at xs ys a = record { before = a.before; behind = ys ++ a.behind; whole = a.whole ∙ ap (λ t. a.before ++ t) (append_assoc xs ys a.behind); place = a.place }

pub About-back : (text : List ℕ) (at : ℕ) (xs ys : List ℕ) → About text at (xs ++ ys) → About text (at + length xs) ys
About-back text at xs ys a = record {
  before = a.before ++ xs;
  behind = a.behind;
  whole = a.whole ∙ ap (λ t. a.before ++ t) (append_assoc xs ys a.behind) ∙ sym (append_assoc a.before xs (ys ++ a.behind));
  place = length-append a.before xs ∙ ap (λ k. k + length xs) a.place;
}

-- ---- the root

pieces_by-at : (at : ℕ) (found : List Atom) → AreSpansAt at found → AllByRecursion (λ (a : Atom). IsSourceOf a.kind a.source) found → ArePiecesAt at (map piece_of found)
pieces_by-at at [] placed all = tt
pieces_by-at at (atom ∷ found) placed all =
    let e : at + length atom.source ≡ at + length (piece_source (piece_of atom)) = ap (λ t. at + length t) (sym (piece_by-source atom.kind atom all.0)) in
    (by_kind atom.kind, subst (λ n. ArePiecesAt n (map piece_of found)) e (pieces_by-at (at + length atom.source) found placed.2 all.1))
  where
    by_kind : (kind : AtomKind) → IsPieceAt at (piece_by kind atom)
    by_kind LineComment = placed.0
    by_kind Comment = placed.0
    by_kind Sealed = placed.0
    by_kind Ignored = placed.0
    by_kind Tag = placed.0
    by_kind Open = placed.0
    by_kind Close = placed.0
    by_kind Bar = placed.0
    by_kind Equals = placed.0
    by_kind Byte = placed.0

pub pieces_of-at : (mode : Mode) (text : List ℕ) → ArePiecesAt 0 (pieces_of mode text)
unfolding atoms
pieces_of-at mode text = pieces_by-at 0 (atoms mode text) (spans-at (atom_at mode) text) (atoms-sources mode text)

item_of-at : (at : ℕ) (piece : Piece) → IsPieceAt at piece → IsItemAt at (item_of piece)
item_of-at at (entry (item i)) h = h
item_of-at at (entry (bar start)) h = h
item_of-at at (entry (equals start)) h = h
item_of-at at (opening run) h = h
item_of-at at (closing run) h = h

item_of-source : (piece : Piece) → source_of (item_of piece) ≡ piece_source piece
unfolding source_of
item_of-source (entry e) = plain_entry-source e
item_of-source (opening run) = refl
item_of-source (closing run) = refl

items_of-at : (at : ℕ) (pieces : List Piece) → ArePiecesAt at pieces → AreItemsAt at (map item_of pieces)
items_of-at at [] h = tt
items_of-at at (piece ∷ pieces) h =
    (item_of-at at piece h.0, subst (λ t. AreItemsAt (at + length t) (map item_of pieces)) (sym (item_of-source piece)) (items_of-at (at + length (piece_source piece)) pieces h.1))

put_before-at : (at : ℕ) (i : Item) (items : List Item) → IsItemAt at i → AreItemsAt (at + length (source_of i)) items → AreItemsAt at (put_before i items)
unfolding source_of
put_before-at at (Item.plain start source) [] h k = (h, k)
put_before-at at (Item.plain start source) (Item.plain next more ∷ items) h k =
    let e : (at + length source) + length more ≡ at + length (source ++ more) = omega (arith, length-append source more) in
    (h, subst (λ n. AreItemsAt n items) e k.1)
put_before-at at (Item.plain start source) (Item.sealed next more ∷ items) h k = (h, k)
put_before-at at (Item.plain start source) (Item.nothing next more ∷ items) h k = (h, k)
put_before-at at (Item.plain start source) (Item.node kind next content ∷ items) h k = (h, k)
put_before-at at (Item.sealed start source) items h k = (h, k)
put_before-at at (Item.nothing start source) items h k = (h, k)
put_before-at at (Item.node kind start content) items h k = (h, k)

merged-at : (at : ℕ) (items : List Item) → AreItemsAt at items → AreItemsAt at (merged items)
merged-at at [] h = tt
merged-at at (i ∷ items) h = put_before-at at i (merged items) h.0 (merged-at (at + length (source_of i)) items h.1)

pub tree-at : (mode : Mode) (text : List ℕ) → AreItemsAt 0 (tree mode text)
unfolding tree
tree-at mode text =
    let pieces : List Piece = pieces_of mode (selected mode text) in
    merged-at 0 (map item_of (reduced pieces)) (items_of-at 0 (reduced pieces) (reduced-at 0 pieces (pieces_of-sound mode (selected mode text)) (pieces_of-at mode (selected mode text))))

pub tree-about : (mode : Mode) (text : List ℕ) → About (selected mode text) 0 (items_source (tree mode text))
tree-about mode text = record { before = []; behind = []; whole = sym (append-nil (items_source (tree mode text)) ∙ tree-source mode text); place = refl }

-- ---- entries one behind the other

abbrev pub AreEntriesAt : ℕ → List Entry → Type 0
AreEntriesAt at [] = Unit {0}
AreEntriesAt at (e ∷ parts) = IsEntryAt at e × AreEntriesAt (at + length (entry_source e)) parts

-- entries stand in a text from a place on
pub record AreEntriesIn (text : List ℕ) (at : ℕ) (parts : List Entry) : Type 0 where
  pub placed : AreEntriesAt at parts
  pub about : About text at (entries_source parts)

entries-at : (at : ℕ) (content : Content) → IsContentAt at content → AreEntriesAt at (entries content)
entries-at at empty_content h = tt
entries-at at (item_then i rest) h = (h.0, entries-at (at + length (source_of i)) rest h.1)
entries-at at (bar_then start rest) h = (h.0, entries-at (at + 1) rest h.1)
entries-at at (equals_then start rest) h = (h.0, entries-at (at + 1) rest h.1)

pub entries-text : (content : Content) → content_source content ≡ entries_source (entries content)
unfolding content_source source_of
entries-text empty_content = refl
entries-text (item_then i rest) = ap (λ t. source_of i ++ t) (entries-text rest)
entries-text (bar_then start rest) = ap (λ t. codes "|" ++ t) (entries-text rest)
entries-text (equals_then start rest) = ap (λ t. codes "=" ++ t) (entries-text rest)

plain_entry-at : (at : ℕ) (e : Entry) → IsEntryAt at e → IsItemAt at (plain_entry e)
plain_entry-at at (item i) h = h
plain_entry-at at (bar start) h = h
plain_entry-at at (equals start) h = h

plain_entries-at : (at : ℕ) (parts : List Entry) → AreEntriesAt at parts → AreItemsAt at (map plain_entry parts)
plain_entries-at at [] h = tt
plain_entries-at at (e ∷ parts) h =
    (plain_entry-at at e h.0, subst (λ t. AreItemsAt (at + length t) (map plain_entry parts)) (sym (plain_entry-source e)) (plain_entries-at (at + length (entry_source e)) parts h.1))

pub plain_entries-source : (parts : List Entry) → items_source (map plain_entry parts) ≡ entries_source parts
plain_entries-source [] = refl
plain_entries-source (e ∷ parts) = ap₂ (λ x y. x ++ y) (plain_entry-source e) (plain_entries-source parts)

-- the text of the items of entries
plain_items-part : (text : List ℕ) (at : ℕ) (parts : List Entry) → AreEntriesIn text at parts → IsPartAt text at (items_source (plain_items parts))
plain_items-part text at parts h = subst (λ t. IsPartAt text at t) (sym (merged-source (map plain_entry parts) ∙ plain_entries-source parts)) (About-IsPartAt text at (entries_source parts) h.about)

-- the items of entries that stand in a text
plain_items-in : (text : List ℕ) (at : ℕ) (parts : List Entry) → AreEntriesIn text at parts → AreItemsIn text (plain_items parts)
plain_items-in text at parts h = record {
  at = at;
  placed = merged-at at (map plain_entry parts) (plain_entries-at at parts h.placed);
  source = plain_items-part text at parts h;
}

-- ---- parts joined

seam : (text before part behind : List ℕ) → text ≡ before ++ (part ++ behind) → take (length (before ++ part)) text ≡ before ++ part
seam text before part behind e =
    ap (λ t. take (length (before ++ part)) t) (e ∙ sym (append_assoc before part behind)) ∙ take-append_seam (before ++ part) behind

About-join : (text : List ℕ) (at : ℕ) (xs ys : List ℕ) → About text at xs → About text (at + length xs) ys → About text at (xs ++ ys)
About-join text at xs ys a b =
    let lengths : length b.before ≡ length (a.before ++ xs) = omega (arith, b.place, a.place, length-append a.before xs) in
    let fronts : b.before ≡ a.before ++ xs =
    sym (ap (λ t. take (length b.before) t) b.whole ∙ take-append_seam b.before (ys ++ b.behind))
    ∙ ap (λ k. take k text) lengths
    ∙ seam text a.before xs a.behind a.whole in
    record {
      before = a.before;
      behind = b.behind;
      whole = b.whole ∙ ap (λ t. t ++ (ys ++ b.behind)) fronts ∙ append_assoc a.before xs (ys ++ b.behind) ∙ ap (λ t. a.before ++ t) (sym (append_assoc xs ys b.behind));
      place = a.place;
    }

About-empty : (text : List ℕ) (at : ℕ) (xs : List ℕ) → About text at xs → About text at []
About-empty text at xs a = About-front text at [] xs a

-- an entry before entries that stand in the text behind it
entry-before : (text : List ℕ) (at : ℕ) (e : Entry) (parts : List Entry) → IsEntryAt at e → About text at (entry_source e) → AreEntriesIn text (at + length (entry_source e)) parts → AreEntriesIn text at (e ∷ parts)
entry-before text at e parts h a k = record { placed = (h, k.placed); about = About-join text at (entry_source e) (entries_source parts) a k.about }

rest-in : (text : List ℕ) (at : ℕ) (e : Entry) (parts : List Entry) → AreEntriesIn text at (e ∷ parts) → AreEntriesIn text (at + length (entry_source e)) parts
rest-in text at e parts h = record { placed = h.placed.1; about = About-back text at (entry_source e) (entries_source parts) h.about }

head-about : (text : List ℕ) (at : ℕ) (e : Entry) (parts : List Entry) → AreEntriesIn text at (e ∷ parts) → About text at (entry_source e)
head-about text at e parts h = About-front text at (entry_source e) (entries_source parts) h.about

-- ---- a content split at its bars

record SplitIn (text : List ℕ) (at : ℕ) (split : Split) : Type 0 where
  first : AreEntriesIn text at split.first
  further : AllByRecursion (λ (part : ℕ × List Entry). AreEntriesIn text part.0 part.1) split.further

split_by-in : (text : List ℕ) (at : ℕ) (e : Entry) (parts : List Entry) (split : Split) → AreEntriesIn text at (e ∷ parts) → SplitIn text (at + length (entry_source e)) split → SplitIn text at (split_by e split)
split_by-in text at (item i) parts split h k = record { first = entry-before text at (item i) split.first h.placed.0 (head-about text at (item i) parts h) k.first; further = k.further }
split_by-in text at (equals start) parts split h k = record { first = entry-before text at (equals start) split.first h.placed.0 (head-about text at (equals start) parts h) k.first; further = k.further }
split_by-in text at (bar start) parts split h k = record {
  first = record { placed = tt; about = About-empty text at (codes "|") (head-about text at (bar start) parts h) };
  further = (subst (λ n. AreEntriesIn text (n + 1) split.first) (sym h.placed.0) k.first, k.further);
}

split_at_bars-in : (text : List ℕ) (at : ℕ) (parts : List Entry) → AreEntriesIn text at parts → SplitIn text at (split_at_bars parts)
split_at_bars-in text at [] h = record { first = h; further = tt }
split_at_bars-in text at (e ∷ parts) h = split_by-in text at e parts (split_at_bars parts) h (split_at_bars-in text (at + length (entry_source e)) parts (rest-in text at e parts h))

-- ---- a part split at its equals sign

abbrev NamedIn : List ℕ → ℕ → Option (List Entry × ℕ × List Entry) → Type 0
NamedIn text at None = Unit {0}
NamedIn text at (Some found) = AreEntriesIn text at found.0 × AreEntriesIn text found.1 found.2

name_by-in : (text : List ℕ) (at : ℕ) (e : Entry) (parts : List Entry) (later : Option (List Entry × ℕ × List Entry)) → AreEntriesIn text at (e ∷ parts) → NamedIn text (at + length (entry_source e)) later → NamedIn text at (name_by e parts later)
name_by-in text at (item i) parts None h k = tt
name_by-in text at (item i) parts (Some found) h k = (entry-before text at (item i) found.0 h.placed.0 (head-about text at (item i) parts h) k.0, k.1)
name_by-in text at (bar start) parts None h k = tt
name_by-in text at (bar start) parts (Some found) h k = (entry-before text at (bar start) found.0 h.placed.0 (head-about text at (bar start) parts h) k.0, k.1)
name_by-in text at (equals start) parts later h k = (
  record { placed = tt; about = About-empty text at (codes "=") (head-about text at (equals start) parts h) },
  subst (λ n. AreEntriesIn text (n + 1) parts) (sym h.placed.0) (rest-in text at (equals start) parts h),
)

split_at_equals-in : (text : List ℕ) (at : ℕ) (parts : List Entry) → AreEntriesIn text at parts → NamedIn text at (split_at_equals parts)
split_at_equals-in text at [] h = tt
split_at_equals-in text at (e ∷ parts) h = name_by-in text at e parts (split_at_equals parts) h (split_at_equals-in text (at + length (entry_source e)) parts (rest-in text at e parts h))

part_lists-in : (text : List ℕ) (at : ℕ) (parts : List Entry) → AreEntriesIn text at parts → AllByRecursion (AreItemsIn text) (part_lists (part_of (at, parts)))
part_lists-in text at parts h =
    (elim (split_at_equals parts) as (λ found. NamedIn text at found → AllByRecursion (AreItemsIn text) (part_lists (elim found [
      | None ↦ record { name = None; value = plain_items parts; start = at }
      | Some f ↦ record { name = Some (plain_items f.0); value = plain_items f.2; start = f.1 }
    ]))) [
      | None ↦ λ k. (plain_items-in text at parts h, tt)
      | Some f ↦ λ k. (plain_items-in text at f.0 k.0, (plain_items-in text f.1 f.2 k.1, tt))
    ]) (split_at_equals-in text at parts h)

further-in : (text : List ℕ) (found : List (ℕ × List Entry)) → AllByRecursion (λ (part : ℕ × List Entry). AreEntriesIn text part.0 part.1) found → AllByRecursion (AreItemsIn text) (flat_map part_lists (map part_of found))
further-in text [] all = tt
further-in text ((at, parts) ∷ found) all =
    all-append (AreItemsIn text) (part_lists (part_of (at, parts))) (flat_map part_lists (map part_of found)) (part_lists-in text at parts all.0) (further-in text found all.1)

-- ---- nodes

-- a node stands in the text where it says, and its content behind its opening braces
pub record IsContentIn (text : List ℕ) (n : Node) : Type 0 where
  pub node : About text n.start (source_of (Item.node n.kind n.start n.content))
  pub placed : IsContentAt (n.start + width n.kind) n.content
  pub about : About text (n.start + width n.kind) (content_source n.content)

node_lists-in : (text : List ℕ) (n : Node) → IsContentIn text n → AllByRecursion (AreItemsIn text) (node_lists n)
node_lists-in text n h =
    let at : ℕ = n.start + width n.kind in
    let whole : AreEntriesIn text at (entries n.content) = record { placed = entries-at at n.content h.placed; about = subst (λ t. About text at t) (entries-text n.content) h.about } in
    let split = split_at_bars-in text at (entries n.content) whole in
    (plain_items-in text at (split_at_bars (entries n.content)).first split.first, further-in text (split_at_bars (entries n.content)).further split.further)

opening-long : (kind : NodeKind) → length (opening_braces kind) ≡ width kind
opening-long kind = length-replicate (width kind) 123

node-content-about : (text : List ℕ) (at : ℕ) (kind : NodeKind) (start : ℕ) (content : Content) → About text at (source_of (Item.node kind start content)) → About text (at + width kind) (content_source content)
unfolding source_of
node-content-about text at kind start content a =
    subst (λ k. About text (at + k) (content_source content)) (opening-long kind)
    (About-front text (at + length (opening_braces kind)) (content_source content) (closing_braces kind) (About-back text at (opening_braces kind) (content_source content ++ closing_braces kind) a))

mutual
  unfolding nodes_of content_source source_of

  contents_of-in : (text : List ℕ) (at : ℕ) (i : Item) → IsItemAt at i → About text at (source_of i) → AllByRecursion (IsContentIn text) (nodes_of i)
  contents_of-in text at (Item.plain start source) h a = tt
  contents_of-in text at (Item.sealed start source) h a = tt
  contents_of-in text at (Item.nothing start source) h a = tt
  contents_of-in text at (Item.node kind start content) h a = (
    record {
      node = subst (λ n. About text n (source_of (Item.node kind start content))) (sym h.0) a;
      placed = subst (λ n. IsContentAt (n + width kind) content) (sym h.0) h.1;
      about = subst (λ n. About text (n + width kind) (content_source content)) (sym h.0) (node-content-about text at kind start content a);
    },
    content_nodes-in text (at + width kind) content h.1 (node-content-about text at kind start content a),
  )

  content_nodes-in : (text : List ℕ) (at : ℕ) (content : Content) → IsContentAt at content → About text at (content_source content) → AllByRecursion (IsContentIn text) (content_nodes content)
  content_nodes-in text at empty_content h a = tt
  content_nodes-in text at (item_then i rest) h a =
      all-append (IsContentIn text) (nodes_of i) (content_nodes rest)
      (contents_of-in text at i h.0 (About-front text at (source_of i) (content_source rest) a))
      (content_nodes-in text (at + length (source_of i)) rest h.1 (About-back text at (source_of i) (content_source rest) a))
  content_nodes-in text at (bar_then start rest) h a = content_nodes-in text (at + 1) rest h.1 (About-back text at (codes "|") (content_source rest) a)
  content_nodes-in text at (equals_then start rest) h a = content_nodes-in text (at + 1) rest h.1 (About-back text at (codes "=") (content_source rest) a)

contents-in : (text : List ℕ) (at : ℕ) (items : List Item) → AreItemsAt at items → About text at (items_source items) → AllByRecursion (IsContentIn text) (nodes items)
contents-in text at [] h a = tt
contents-in text at (i ∷ items) h a =
    all-append (IsContentIn text) (nodes_of i) (nodes items)
    (contents_of-in text at i h.0 (About-front text at (source_of i) (items_source items) a))
    (contents-in text (at + length (source_of i)) items h.1 (About-back text at (source_of i) (items_source items) a))

all_lists-in : (text : List ℕ) (found : List Node) → AllByRecursion (IsContentIn text) found → AllByRecursion (AreItemsIn text) (flat_map node_lists found)
all_lists-in text [] all = tt
all_lists-in text (n ∷ found) all = all-append (AreItemsIn text) (node_lists n) (flat_map node_lists found) (node_lists-in text n all.0) (all_lists-in text found all.1)

-- ---- all lists of a tree

pub tree-contents-in : (mode : Mode) (text : List ℕ) → AllByRecursion (IsContentIn (selected mode text)) (nodes (tree mode text))
tree-contents-in mode text = contents-in (selected mode text) 0 (tree mode text) (tree-at mode text) (tree-about mode text)

pub tree-lists-in : (mode : Mode) (text : List ℕ) → AllByRecursion (AreItemsIn (selected mode text)) (lists (tree mode text))
tree-lists-in mode text = (
  record { at = 0; placed = tree-at mode text; source = About-IsPartAt (selected mode text) 0 (items_source (tree mode text)) (tree-about mode text) },
  all_lists-in (selected mode text) (nodes (tree mode text)) (tree-contents-in mode text),
)

-- ---- items and nodes by themselves

pub IsPartAt-About : (text : List ℕ) (at : ℕ) (part : List ℕ) → IsPartAt text at part → About text at part
IsPartAt-About text at part h =
    let n : (at + length part) - at ≡ length part = omega arith in
    let cut : take (length part) (drop at text) ≡ part = ap (λ k. take k (drop at text)) (sym n) ∙ h.same in
    record {
      before = take at text;
      behind = drop (length part) (drop at text);
      whole = sym (take-append-drop at text) ∙ ap (λ t. take at text ++ t) (sym (take-append-drop (length part) (drop at text)) ∙ ap (λ t. t ++ drop (length part) (drop at text)) cut);
      place = let long : at + length part ≤ length text = h.within in length-take at text ∙ omega arith;
    }

start-is : (at : ℕ) (i : Item) → IsItemAt at i → start_of i ≡ at
start-is at (Item.plain start source) h = h
start-is at (Item.sealed start source) h = h
start-is at (Item.nothing start source) h = h
start-is at (Item.node kind start content) h = h.0

items-each : (text : List ℕ) (at : ℕ) (items : List Item) → AreItemsAt at items → About text at (items_source items) → AllByRecursion (IsItemIn text) items
items-each text at [] h a = tt
items-each text at (i ∷ items) h a = (
  subst (λ n. IsPartAt text n (source_of i)) (sym (start-is at i h.0)) (About-IsPartAt text at (source_of i) (About-front text at (source_of i) (items_source items) a)),
  items-each text (at + length (source_of i)) items h.1 (About-back text at (source_of i) (items_source items) a),
)

-- each of the items that stand in a text stands where it says
pub AreItemsIn-each : (text : List ℕ) (items : List Item) → AreItemsIn text items → AllByRecursion (IsItemIn text) items
AreItemsIn-each text items h = items-each text h.at items h.placed (IsPartAt-About text h.at (items_source items) h.source)

value-in : (text : List ℕ) (at : ℕ) (parts : List Entry) → AreEntriesIn text at parts → IsValueIn text (part_of (at, parts))
value-in text at parts h =
    (elim (split_at_equals parts) as (λ found. NamedIn text at found → IsValueIn text (elim found [
      | None ↦ record { name = None; value = plain_items parts; start = at }
      | Some f ↦ record { name = Some (plain_items f.0); value = plain_items f.2; start = f.1 }
    ])) [
      | None ↦ λ k. (plain_items-part text at parts h)
      | Some f ↦ λ k. (plain_items-part text f.1 f.2 k.1)
    ]) (split_at_equals-in text at parts h)

values-in : (text : List ℕ) (found : List (ℕ × List Entry)) → AllByRecursion (λ (part : ℕ × List Entry). AreEntriesIn text part.0 part.1) found → AllByRecursion (IsValueIn text) (map part_of found)
values-in text [] all = tt
values-in text ((at, parts) ∷ found) all = (value-in text at parts all.0, values-in text found all.1)

pub IsContentIn-node : (text : List ℕ) (n : Node) → IsContentIn text n → IsNodeIn text n
unfolding source_of
IsContentIn-node text n h =
    let at : ℕ = n.start + width n.kind in
    let whole : AreEntriesIn text at (entries n.content) = record { placed = entries-at at n.content h.placed; about = subst (λ t. About text at t) (entries-text n.content) h.about } in
    record {
      whole = About-IsPartAt text n.start (opening_braces n.kind ++ (content_source n.content ++ closing_braces n.kind)) h.node;
      values = values-in text (split_at_bars (entries n.content)).further (split_at_bars-in text at (entries n.content) whole).further;
    }

pub tree-nodes-in : (mode : Mode) (text : List ℕ) → AllByRecursion (IsNodeIn (selected mode text)) (nodes (tree mode text))
tree-nodes-in mode text = all-imp (IsContentIn (selected mode text)) (IsNodeIn (selected mode text)) (IsContentIn-node (selected mode text)) (nodes (tree mode text)) (tree-contents-in mode text)

pub tree-items-in : (mode : Mode) (text : List ℕ) → AllByRecursion (AllByRecursion (IsItemIn (selected mode text))) (lists (tree mode text))
tree-items-in mode text = all-imp (AreItemsIn (selected mode text)) (AllByRecursion (IsItemIn (selected mode text))) (AreItemsIn-each (selected mode text)) (lists (tree mode text)) (tree-lists-in mode text)
