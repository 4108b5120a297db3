-- Atoms as places in a text.
use Rattle.std.specs.Prelude.{◌≡◌, ◌≢◌, ℕ, ◌+◌, ◌<◌, ◌≤◌, ◌⊎◌, ◌==◌, Bool, List, [], ◌∷◌, length, take, drop, replicate, codes}
use Rattle.std.specs.List.{list_any}
use Rattle.wk_text_rules.specs.Shapes.{Span}
use Rattle.wk_tree_rules.specs.declared.AtomKind.{AtomKind}
use Rattle.wk_tree_rules.specs.declared.AtomKind.TheVariants.{LineComment, Comment, Sealed, Ignored, Tag, Open, Close, Bar, Equals, Byte}
use Rattle.wk_tree_rules.specs.Atoms.{atom_at}
use Rattle.wk_tree_rules.specs.declared.Mode.{Mode}
use Rattle.wk_lex.specs.Places.{byte_before}
use Rattle.wk_lex.specs.declared.atom.Atom.{Atom}

-- the bytes that an atom covers in a text
abbrev pub source_in : List ℕ → Atom → List ℕ
source_in text atom = take atom.len (drop atom.start text)

-- the atom with its source, as the definition of atoms has it
abbrev pub span_of : List ℕ → Atom → Span AtomKind ℕ
span_of text atom = record { kind = atom.kind; start = atom.start; source = source_in text atom }

-- each atom starts where the one before it ends; the first starts at a place, and the last ends at one
abbrev pub IsRow : ℕ → ℕ → List Atom → Type 0
IsRow start end [] = start ≡ end
IsRow start end (atom ∷ atoms) = (atom.start ≡ start) × (0 < atom.len) × IsRow (start + atom.len) end atoms

-- an atom has a byte, and ends at the end of a text of so many bytes or before
pub record IsWithin (most : ℕ) (atom : Atom) : Type 0 where
  pub some : 0 < atom.len
  pub bounded : atom.start + atom.len ≤ most

-- two or more of one mark, and nothing else
pub record IsRunOf (mark : ℕ) (source : List ℕ) : Type 0 where
  pub long : 2 ≤ length source
  pub marks : source ≡ replicate (length source) mark

-- a run of one of two marks
abbrev pub IsRunOfEither : ℕ → ℕ → List ℕ → Type 0
IsRunOfEither brace bracket source = IsRunOf brace source ⊎ IsRunOf bracket source

-- what the source of an atom is where its kind is of marks: a run of one mark that opens, or of one that closes
abbrev pub IsRunByKind : AtomKind → List ℕ → Type 0
IsRunByKind LineComment source = Unit {0}
IsRunByKind Comment source = Unit {0}
IsRunByKind Sealed source = Unit {0}
IsRunByKind Ignored source = Unit {0}
IsRunByKind Tag source = Unit {0}
IsRunByKind Open source = IsRunOfEither 123 91 source
IsRunByKind Close source = IsRunOfEither 125 93 source
IsRunByKind Bar source = Unit {0}
IsRunByKind Equals source = Unit {0}
IsRunByKind Byte source = Unit {0}

abbrev pub IsRunWhereMarks : List ℕ → Atom → Type 0
IsRunWhereMarks text atom = IsRunByKind atom.kind (source_in text atom)

-- the kind of the atom that begins at a place, and the place behind it
pub record IsAtomAt (mode : Mode) (text : List ℕ) (at : ℕ) (found : AtomKind × ℕ) : Type 0 where
  pub fits : atom_at mode (byte_before at text) (drop at text) ≡ (found.0, drop found.1 text)
  pub within : (at < found.1) × (found.1 ≤ length text)

-- a byte with which an atom may begin that isn't a line of comments or a byte
abbrev pub is_mark : ℕ → Bool
is_mark byte = list_any (λ mark. byte == mark) (codes "<{[}]|=")

-- a byte that no atom begins with, but a line of comments and the atom that is the byte alone
pub record IsPlain (byte : ℕ) : Type 0 where
  pub angle : byte ≢ 60
  pub open_brace : byte ≢ 123
  pub open_bracket : byte ≢ 91
  pub close_brace : byte ≢ 125
  pub close_bracket : byte ≢ 93
  pub bar : byte ≢ 124
  pub equals : byte ≢ 61
