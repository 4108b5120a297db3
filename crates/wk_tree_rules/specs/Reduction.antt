-- How delimiters are matched into nodes, as a rewriting of the whole list of atoms (MediaWiki's Preprocessor ABNF; all
-- of how braces and brackets that cross are matched is own).
use Rattle.std.specs.Prelude.{ℕ, zero, suc, ◌+◌, ◌-◌, ◌==◌, min, replicate, List, [], ◌∷◌, ◌++◌, length, map, filter_map, sum_by, Option, Some, None, option_map, if◌then◌else◌}
use Rattle.wk_tree_rules.specs.Atoms.{Atom, atoms}
use Rattle.wk_tree_rules.specs.Trees.{Item, plain, sealed, nothing, node, NodeKind, template, argument, Entry, item, bar, equals, content_of, content_height, plain_entry}
use Rattle.wk_tree_rules.specs.declared.AtomKind.{AtomKind}
use Rattle.wk_tree_rules.specs.declared.AtomKind.TheVariants.{LineComment, Comment, Sealed, Ignored, Tag, Open, Close, Bar, Equals, Byte}
use Rattle.wk_tree_rules.specs.declared.Mode.{Mode}

-- ---- what is rewritten

pub data Delimiter : Type 0 where
  braces : Delimiter
  brackets : Delimiter

-- a run of delimiters: which, where the first stands, and how many
pub record Run : Type 0 where
  pub delimiters : Delimiter
  pub start : ℕ
  pub count : ℕ

-- an entry, or delimiters that aren't matched yet
pub data Piece : Type 0 where
  entry : Entry → Piece
  opening : Run → Piece
  closing : Run → Piece

abbrev pub delimiters_of : List ℕ → Delimiter
delimiters_of [] = brackets
delimiters_of (b ∷ source) = if b == 123 then braces else if b == 125 then braces else brackets

abbrev pub run_of_atom : Atom → Run
run_of_atom atom = record { delimiters = delimiters_of atom.source; start = atom.start; count = length atom.source }

-- what an atom of a kind is before any rewriting
abbrev pub piece_by : AtomKind → Atom → Piece
piece_by LineComment atom = entry (item (nothing atom.start atom.source))
piece_by Comment atom = entry (item (nothing atom.start atom.source))
piece_by Sealed atom = entry (item (sealed atom.start atom.source))
piece_by Ignored atom = entry (item (nothing atom.start atom.source))
piece_by Tag atom = entry (item (nothing atom.start atom.source))
piece_by Open atom = opening (run_of_atom atom)
piece_by Close atom = closing (run_of_atom atom)
piece_by Bar atom = entry (bar atom.start)
piece_by Equals atom = entry (equals atom.start)
piece_by Byte atom = entry (item (plain atom.start atom.source))

abbrev pub piece_of : Atom → Piece
piece_of atom = piece_by atom.kind atom

-- the pieces of a text before any rewriting
abbrev pub pieces_of : Mode → List ℕ → List Piece
pieces_of mode text = map piece_of (atoms mode text)

-- ---- runs

abbrev pub opening_delimiter : Delimiter → ℕ
opening_delimiter braces = 123
opening_delimiter brackets = 91

abbrev pub closing_delimiter : Delimiter → ℕ
closing_delimiter braces = 125
closing_delimiter brackets = 93

-- a run's delimiters as plain bytes
abbrev pub plain_opening : Run → Item
plain_opening run = plain run.start (replicate run.count (opening_delimiter run.delimiters))

abbrev pub plain_closing : Run → Item
plain_closing run = plain run.start (replicate run.count (closing_delimiter run.delimiters))

-- the first or the last delimiters of a run, so many of them
abbrev pub first_delimiters : ℕ → Run → Run
first_delimiters n run = record run { count = n }

abbrev pub last_delimiters : ℕ → Run → Run
last_delimiters n run = record run { start = run.start + (run.count - n); count = n }

-- What is left of a run, by how many delimiters it has: nothing; a single delimiter, which is a plain byte; or the run.
abbrev pub left_over : ℕ → Item → Piece → List Piece
left_over zero byte run = []
left_over (suc zero) byte run = entry (item byte) ∷ []
left_over (suc (suc n)) byte run = run ∷ []

abbrev pub left_opening : Run → List Piece
left_opening run = left_over run.count (plain_opening run) (opening run)

abbrev pub left_closing : Run → List Piece
left_closing run = left_over run.count (plain_closing run) (closing run)

-- ---- the leftmost closing run, and the nearest opening run to its left

-- a list of pieces about its leftmost closing run
pub record AtClosing : Type 0 where
  pub before : List Piece
  pub run : Run
  pub behind : List Piece

-- the same, with one more piece in front
abbrev pub behind_piece : Piece → AtClosing → AtClosing
behind_piece piece at = record at { before = piece ∷ at.before }

abbrev pub leftmost_closing : List Piece → Option AtClosing
leftmost_closing [] = None
leftmost_closing (closing run ∷ pieces) = Some (record { before = []; run = run; behind = pieces })
leftmost_closing (piece ∷ pieces) = option_map (behind_piece piece) (leftmost_closing pieces)

abbrev pub entry_of : Piece → Option Entry
entry_of (entry e) = Some e
entry_of (opening run) = None
entry_of (closing run) = None

abbrev pub entries_of : List Piece → List Entry
entries_of pieces = filter_map entry_of pieces

-- a list of pieces without closing runs about its last opening run, behind which all are entries
pub record AtOpening : Type 0 where
  pub before : List Piece
  pub run : Run
  pub stretch : List Entry

abbrev pub last_opening_or : Piece → List Piece → Option AtOpening → Option AtOpening
last_opening_or piece pieces (Some at) = Some (record at { before = piece ∷ at.before })
last_opening_or (opening run) pieces None = Some (record { before = []; run = run; stretch = entries_of pieces })
last_opening_or piece pieces None = None

abbrev pub last_opening : List Piece → Option AtOpening
last_opening [] = None
last_opening (piece ∷ pieces) = last_opening_or piece pieces (last_opening pieces)

-- ---- one step

-- the greatest height of a tree (own)
abbrev pub most_height : ℕ
most_height = 100

-- how many braces of each run go into a node: all of the shorter run, at most three
abbrev pub node_width : Run → Run → ℕ
node_width opener closer = min opener.count (min closer.count 3)

abbrev pub kind_by_width : ℕ → NodeKind
kind_by_width c = if c == 3 then argument else template

-- braces, a stretch and braces become a node
abbrev pub as_node : AtOpening → Run → List Piece
as_node at closer =
    let c = node_width at.run closer in
    at.before
    ++ left_opening (first_delimiters (at.run.count - c) at.run)
    ++ entry (item (node (kind_by_width c) (last_delimiters c at.run).start (content_of at.stretch)))
    ∷ left_closing (last_delimiters (closer.count - c) closer)

-- two brackets, a stretch and two brackets become plain items; nodes in the stretch stay nodes
abbrev pub as_brackets : AtOpening → Run → List Piece
as_brackets at closer =
    at.before
    ++ left_opening (first_delimiters (at.run.count - 2) at.run)
    ++ entry (item (plain_opening (last_delimiters 2 at.run)))
    ∷ map (λ e. entry (item (plain_entry e))) at.stretch
    ++ entry (item (plain_closing (first_delimiters 2 closer)))
    ∷ left_closing (last_delimiters (closer.count - 2) closer)

-- the closing delimiters become plain bytes
abbrev pub as_plain : List Piece → Run → List Piece
as_plain before closer = before ++ entry (item (plain_closing closer)) ∷ []

-- by which delimiters the two runs have
abbrev pub matched : Delimiter → Delimiter → List Piece → AtOpening → Run → List Piece
matched braces braces before at closer =
    if content_height (content_of at.stretch) == most_height then as_plain before closer else as_node at closer
matched brackets brackets before at closer = as_brackets at closer
matched braces brackets before at closer = as_plain before closer
matched brackets braces before at closer = as_plain before closer

-- what a closing run becomes together with the pieces before it, none of which is a closing run
abbrev pub answered : List Piece → Run → List Piece
answered before closer = elim (last_opening before) [
  | None ↦ as_plain before closer
  | Some at ↦ matched at.run.delimiters closer.delimiters before at closer
]

-- the leftmost closing run is matched; with none nothing changes
unfoldable pub step : List Piece → List Piece
step pieces = elim (leftmost_closing pieces) [
  | None ↦ pieces
  | Some at ↦ answered at.before at.run ++ at.behind
]

-- ---- all steps

unfoldable pub steps : ℕ → List Piece → List Piece
steps zero pieces = pieces
steps (suc n) pieces = steps n (step pieces)

-- how many delimiters a piece has that close
abbrev pub closing_delimiters_of : Piece → ℕ
closing_delimiters_of (entry e) = 0
closing_delimiters_of (opening run) = 0
closing_delimiters_of (closing run) = run.count

abbrev pub closing_delimiters : List Piece → ℕ
closing_delimiters pieces = sum_by closing_delimiters_of pieces

-- The rewriting, until no closing run is left. Each step spends a closing delimiter, so there are at most so many steps.
unfoldable pub reduced : List Piece → List Piece
reduced pieces = steps (closing_delimiters pieces) pieces
