-- What is so of the tree of a text, by what the rewriting keeps of its pieces.
use Rattle.std.proofs.Common.{◌≡◌, ℕ, ◌≤◌, max, List, [], ◌∷◌, ◌++◌, map, flat_map, None, refl, ap, ap₂, sym, ◌∙◌, arith, append_assoc}
use Rattle.std.specs.List.{AllByRecursion}
use Rattle.wk_tree_laws.proofs.AtomLemmas.{IsSourceOf, atoms-sources}
use Rattle.wk_tree_laws.proofs.PieceLemmas.{piece_source, pieces_source, plain_entry-source, IsSound, AreSound, HaveNoClosing, leftmost_closing-none}
use Rattle.wk_tree_laws.proofs.ReductionLemmas.{reduced-keeps, reduced-end}
use Rattle.wk_tree_laws.proofs.SpanLemmas.{spans-source}
use Rattle.wk_tree_rules.specs.Atoms.{Atom, atoms, atom_at}
use Rattle.wk_tree_rules.specs.Reduction.{Piece, entry, opening, closing, piece_by, piece_of, pieces_of, leftmost_closing, most_height, reduced}
use Rattle.wk_tree_rules.specs.Selection.{selected}
use Rattle.wk_tree_rules.specs.Tree.{item_of, tree}
use Rattle.wk_tree_rules.specs.Trees.{Item, item, bar, equals, source_of, items_source, height, items_height, put_before, merged}
use Rattle.wk_tree_rules.specs.declared.AtomKind.{AtomKind}
use Rattle.wk_tree_rules.specs.declared.AtomKind.TheVariants.{LineComment, Comment, Sealed, Ignored, Tag, Open, Close, Bar, Equals, Byte}
use Rattle.wk_tree_rules.specs.declared.Mode.{Mode}

-- ---- the pieces of a text

piece_by-sound : (kind : AtomKind) (atom : Atom) → IsSourceOf kind atom.source → IsSound (piece_by kind atom)
unfolding height
piece_by-sound LineComment atom h = omega arith
piece_by-sound Comment atom h = omega arith
piece_by-sound Sealed atom h = omega arith
piece_by-sound Ignored atom h = omega arith
piece_by-sound Tag atom h = omega arith
piece_by-sound Open atom h = h.long
piece_by-sound Close atom h = h.long
piece_by-sound Bar atom h = omega arith
piece_by-sound Equals atom h = omega arith
piece_by-sound Byte atom h = omega arith

pieces_by-sound : (found : List Atom) → AllByRecursion (λ (a : Atom). IsSourceOf a.kind a.source) found → AreSound (map piece_of found)
pieces_by-sound [] all = tt
pieces_by-sound (atom ∷ found) all = (piece_by-sound atom.kind atom all.0, pieces_by-sound found all.1)

pub pieces_of-sound : (mode : Mode) (text : List ℕ) → AreSound (pieces_of mode text)
pieces_of-sound mode text = pieces_by-sound (atoms mode text) (atoms-sources mode text)

pub piece_by-source : (kind : AtomKind) (atom : Atom) → IsSourceOf kind atom.source → piece_source (piece_by kind atom) ≡ atom.source
unfolding source_of
piece_by-source LineComment atom h = refl
piece_by-source Comment atom h = refl
piece_by-source Sealed atom h = refl
piece_by-source Ignored atom h = refl
piece_by-source Tag atom h = refl
piece_by-source Open atom h = h.delimiters
piece_by-source Close atom h = h.delimiters
piece_by-source Bar atom h = sym h
piece_by-source Equals atom h = sym h
piece_by-source Byte atom h = refl

pieces_by-source : (found : List Atom) → AllByRecursion (λ (a : Atom). IsSourceOf a.kind a.source) found → pieces_source (map piece_of found) ≡ flat_map (λ (a : Atom). a.source) found
pieces_by-source [] all = refl
pieces_by-source (atom ∷ found) all = ap₂ (λ x y. x ++ y) (piece_by-source atom.kind atom all.0) (pieces_by-source found all.1)

pub pieces_of-source : (mode : Mode) (text : List ℕ) → pieces_source (pieces_of mode text) ≡ text
unfolding atoms
pieces_of-source mode text = pieces_by-source (atoms mode text) (atoms-sources mode text) ∙ spans-source (atom_at mode) text

-- ---- items

put_before-source : (i : Item) (items : List Item) → items_source (put_before i items) ≡ source_of i ++ items_source items
unfolding source_of
put_before-source (Item.plain start source) [] = refl
put_before-source (Item.plain start source) (Item.plain next more ∷ items) = append_assoc source more (items_source items)
put_before-source (Item.plain start source) (Item.sealed next more ∷ items) = refl
put_before-source (Item.plain start source) (Item.nothing next more ∷ items) = refl
put_before-source (Item.plain start source) (Item.node kind next content ∷ items) = refl
put_before-source (Item.sealed start source) items = refl
put_before-source (Item.nothing start source) items = refl
put_before-source (Item.node kind start content) items = refl

pub merged-source : (items : List Item) → items_source (merged items) ≡ items_source items
merged-source [] = refl
merged-source (i ∷ items) = put_before-source i (merged items) ∙ ap (λ t. source_of i ++ t) (merged-source items)

item_of-source : (piece : Piece) → source_of (item_of piece) ≡ piece_source piece
unfolding source_of
item_of-source (entry e) = plain_entry-source e
item_of-source (opening run) = refl
item_of-source (closing run) = refl

items_of-source : (pieces : List Piece) → items_source (map item_of pieces) ≡ pieces_source pieces
items_of-source [] = refl
items_of-source (piece ∷ pieces) = ap₂ (λ x y. x ++ y) (item_of-source piece) (items_of-source pieces)

put_before-height : (i : Item) (items : List Item) → items_height (put_before i items) ≤ max (height i) (items_height items)
unfolding height
put_before-height (Item.plain start source) [] = omega arith
put_before-height (Item.plain start source) (Item.plain next more ∷ items) = omega arith
put_before-height (Item.plain start source) (Item.sealed next more ∷ items) = omega arith
put_before-height (Item.plain start source) (Item.nothing next more ∷ items) = omega arith
put_before-height (Item.plain start source) (Item.node kind next content ∷ items) = omega arith
put_before-height (Item.sealed start source) items = omega arith
put_before-height (Item.nothing start source) items = omega arith
put_before-height (Item.node kind start content) items = omega arith

item_of-height : (piece : Piece) → IsSound piece → height (item_of piece) ≤ most_height
unfolding height
item_of-height (entry (item i)) h = h
item_of-height (entry (bar start)) h = omega arith
item_of-height (entry (equals start)) h = omega arith
item_of-height (opening run) h = omega arith
item_of-height (closing run) h = omega arith

merged-height : (pieces : List Piece) → AreSound pieces → items_height (merged (map item_of pieces)) ≤ most_height
merged-height [] all = omega arith
merged-height (piece ∷ pieces) all =
    let later : items_height (merged (map item_of pieces)) ≤ most_height = merged-height pieces all.1 in
    let now : height (item_of piece) ≤ most_height = item_of-height piece all.0 in
    omega (arith, put_before-height (item_of piece) (merged (map item_of pieces)))

-- ---- trees

pub tree-source : (mode : Mode) (text : List ℕ) → items_source (tree mode text) ≡ selected mode text
unfolding tree
tree-source mode text =
    let pieces : List Piece = pieces_of mode (selected mode text) in
    merged-source (map item_of (reduced pieces))
    ∙ items_of-source (reduced pieces)
    ∙ (reduced-keeps pieces (pieces_of-sound mode (selected mode text))).source
    ∙ pieces_of-source mode (selected mode text)

pub tree-height : (mode : Mode) (text : List ℕ) → items_height (tree mode text) ≤ most_height
unfolding tree
tree-height mode text =
    let pieces : List Piece = pieces_of mode (selected mode text) in
    merged-height (reduced pieces) (reduced-keeps pieces (pieces_of-sound mode (selected mode text))).sound

pub reduced-no_closing : (mode : Mode) (text : List ℕ) → HaveNoClosing (reduced (pieces_of mode text))
reduced-no_closing mode text = reduced-end (pieces_of mode text) (pieces_of-sound mode text)

-- in the words of the rewriting
pub reduced-found : (mode : Mode) (text : List ℕ) → leftmost_closing (reduced (pieces_of mode text)) ≡ None
reduced-found mode text = leftmost_closing-none (reduced (pieces_of mode text)) (reduced-no_closing mode text)
