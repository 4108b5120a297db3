-- The atoms of a text (MediaWiki's Preprocessor ABNF and Help:Templates; what is own is marked so).
use Rattle.std.specs.Prelude.{ℕ, ◌==◌, List, [], ◌∷◌, drop, codes, Option, Some, None, if◌then◌else◌}
use Rattle.wk_text_rules.specs.Shapes.{Shape, Span, exactly, run_of, ◌and_then◌, ◌or_else◌, first_that_fits, spans}
use Rattle.wk_tree_rules.specs.declared.AtomKind.{AtomKind}
use Rattle.wk_tree_rules.specs.declared.AtomKind.TheVariants.{LineComment, Comment, Sealed, Ignored, Tag, Open, Close, Bar, Equals, Byte}
use Rattle.wk_tree_rules.specs.declared.Mode.{Mode}
use Rattle.wk_tree_rules.specs.declared.Mode.TheVariants.{View, Include}
use Rattle.wk_tree_rules.specs.Tags.{line_of_comments, comment, opening_tag, end_tag, element, open_ended_element}

-- the shape, where the byte before is a newline; at the start of a text there is none
abbrev pub after_newline : Option ℕ → Shape ℕ → Shape ℕ
after_newline None shape text = None
after_newline (Some b) shape text = if b == 10 then shape text else None

-- a `nowiki` or `pre` element (`pre` is own)
abbrev pub sealed_element : Shape ℕ
sealed_element = element (codes "nowiki") or_else element (codes "pre")

-- the element that the mode leaves out
abbrev pub ignored_element : Mode → Shape ℕ
ignored_element View = open_ended_element (codes "includeonly")
ignored_element Include = open_ended_element (codes "noinclude")

abbrev pub any_tag : List ℕ → Shape ℕ
any_tag name = opening_tag name or_else end_tag name

-- the tags of which the mode shows the content and not the tag
abbrev pub silent_tag : Mode → Shape ℕ
silent_tag View = any_tag (codes "noinclude") or_else any_tag (codes "onlyinclude")
silent_tag Include = any_tag (codes "includeonly")

-- a longest run of two or more of a delimiter
abbrev pub run_of_delimiters : ℕ → Shape ℕ
run_of_delimiters delimiter = exactly (delimiter ∷ delimiter ∷ []) and_then run_of (λ b. b == delimiter)

-- What an atom may be, by the byte before its place. The first that fits is taken, and else the atom is a byte.
abbrev pub atom_shapes : Mode → Option ℕ → List (AtomKind × Shape ℕ)
atom_shapes mode before =
    (LineComment, after_newline before line_of_comments)
    ∷ (Comment, comment)
    ∷ (Sealed, sealed_element)
    ∷ (Ignored, ignored_element mode)
    ∷ (Tag, silent_tag mode)
    ∷ (Open, run_of_delimiters 123 or_else run_of_delimiters 91)
    ∷ (Close, run_of_delimiters 125 or_else run_of_delimiters 93)
    ∷ (Bar, exactly (codes "|"))
    ∷ (Equals, exactly (codes "="))
    ∷ []

-- the atom that begins at a place, and what follows it
abbrev pub atom_at : Mode → Option ℕ → List ℕ → AtomKind × List ℕ
atom_at mode before text = first_that_fits (atom_shapes mode before) (Byte, drop 1 text) text

-- an atom: its kind, the place at which it starts, and its source
abbrev pub Atom : Type 0
Atom = Span AtomKind ℕ

-- the atoms of a text, from its start to its end
unfoldable pub atoms : Mode → List ℕ → List Atom
atoms mode text = spans (atom_at mode) text
