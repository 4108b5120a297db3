-- How the examples write atoms and trees: in short texts, which only examples use.
use Rattle.std.specs.Prelude.{ℕ, zero, suc, List, [], ◌++◌, replicate, map, flat_map, codes, Some, None}
use Rattle.wk_tree_rules.specs.Atoms.{Atom, atoms}
use Rattle.wk_tree_rules.specs.Tree.{Part, Node, title_part, further_parts, nodes, node_length, tree}
use Rattle.wk_tree_rules.specs.Trees.{Item, NodeKind, template, argument}
use Rattle.wk_tree_rules.specs.declared.AtomKind.{AtomKind}
use Rattle.wk_tree_rules.specs.declared.AtomKind.TheVariants.{LineComment, Comment, Sealed, Ignored, Tag, Open, Close, Bar, Equals, Byte}
use Rattle.wk_tree_rules.specs.declared.Mode.{Mode}

-- ---- atoms: a byte as it is, every other atom as a letter and its source in parentheses

abbrev pub enclosed : List ℕ → List ℕ → List ℕ
enclosed letter source = letter ++ codes "(" ++ source ++ codes ")"

abbrev pub atom_by : AtomKind → List ℕ → List ℕ
atom_by LineComment source = enclosed (codes "L") source
atom_by Comment source = enclosed (codes "C") source
atom_by Sealed source = enclosed (codes "S") source
atom_by Ignored source = enclosed (codes "I") source
atom_by Tag source = enclosed (codes "T") source
atom_by Open source = enclosed (codes "O") source
atom_by Close source = enclosed (codes "E") source
atom_by Bar source = enclosed (codes "B") source
atom_by Equals source = enclosed (codes "Q") source
atom_by Byte source = source

abbrev pub spelled_atoms : Mode → List ℕ → List ℕ
spelled_atoms mode text = flat_map (λ (atom : Atom). atom_by atom.kind atom.source) (atoms mode text)

-- the places at which the atoms start
abbrev pub atom_starts : Mode → List ℕ → List ℕ
atom_starts mode text = map (λ (atom : Atom). atom.start) (atoms mode text)

-- ---- trees: plain text as it is, sealed text as S(..), text that gives nothing as N(..), a template as T(..) and an
-- argument as A(..), with a bar before each further part and `:=` behind its name

abbrev pub spelled_part : (List Item → List ℕ) → Part → List ℕ
spelled_part spelled part = codes "|" ++ (elim part.name [ None ↦ [] | Some name ↦ spelled name ++ codes ":=" ]) ++ spelled part.value

abbrev pub letter_of : NodeKind → List ℕ
letter_of template = codes "T"
letter_of argument = codes "A"

abbrev pub spelled_item : (List Item → List ℕ) → Item → List ℕ
spelled_item spelled (Item.plain start source) = source
spelled_item spelled (Item.sealed start source) = enclosed (codes "S") source
spelled_item spelled (Item.nothing start source) = enclosed (codes "N") source
spelled_item spelled (Item.node kind start content) =
    enclosed (letter_of kind) (spelled (title_part content) ++ flat_map (spelled_part spelled) (further_parts content))

-- a list of items, to a depth of so many nodes
unfoldable pub spelled_items : ℕ → List Item → List ℕ
spelled_items zero items = codes "TOO DEEP"
spelled_items (suc n) items = flat_map (spelled_item (spelled_items n)) items

abbrev pub spelled_tree : Mode → List ℕ → List ℕ
spelled_tree mode text = spelled_items 9 (tree mode text)

-- the start and the length of each node of a text
abbrev pub node_spans : Mode → List ℕ → List (ℕ × ℕ)
node_spans mode text = map (λ (n : Node). (n.start, node_length n)) (nodes (tree mode text))

-- ---- long texts

-- arguments within one another, so many of them
abbrev pub deep : ℕ → List ℕ
deep n = flat_map (λ (k : ℕ). codes "{{{x|") (replicate n 0) ++ codes "y" ++ flat_map (λ (k : ℕ). codes "}}}") (replicate n 0)
