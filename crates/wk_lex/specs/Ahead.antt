-- Atoms that are read one after another, plain bytes that stand together as one.
use Rattle.std.specs.Prelude.{◌≡◌, ◌≢◌, ℕ, ◌+◌, ◌-◌, ◌<◌, ◌≤◌, ◌⊎◌, true, List, [], ◌∷◌, ◌++◌, length, take, drop, slice_index, slice_index_or}
use Rattle.std.specs.List.{AllByRecursion}
use Rattle.wk_text_rules.specs.Shapes.{Span, spans_from}
use Rattle.wk_tree_laws.proofs.AtomLemmas.{IsSourceOf}
use Rattle.wk_tree_rules.specs.Atoms.{atom_at}
use Rattle.wk_tree_rules.specs.declared.AtomKind.{AtomKind}
use Rattle.wk_tree_rules.specs.declared.AtomKind.TheVariants.{Byte}
use Rattle.wk_tree_rules.specs.declared.Mode.{Mode}
use Rattle.wk_lex.specs.Places.{byte_before}
use Rattle.wk_lex.specs.Spans.{source_in, span_of, is_mark, IsWithin, IsRunWhereMarks}
use Rattle.wk_lex.specs.declared.atom.Atom.{Atom}

-- a text that is read, and the atoms of it that are still to come
pub record Ahead : Type 0 where
  pub text : List ℕ
  pub atoms : List (Span AtomKind ℕ)

-- the atoms of a text from a place on
abbrev pub atoms_from : Mode → List ℕ → ℕ → List (Span AtomKind ℕ)
atoms_from mode text at = spans_from (atom_at mode) at (byte_before at text) 0 (drop at text)

-- bytes from a place on, each as an atom of its own
abbrev pub byte_atoms : ℕ → List ℕ → List (Span AtomKind ℕ)
byte_atoms at [] = []
byte_atoms at (b ∷ source) = record { kind = Byte; start = at; source = b ∷ [] } ∷ byte_atoms (at + 1) source

-- bytes that come as one: a single byte, or bytes of which the first is no opening mark
abbrev pub IsOneText : List ℕ → Type 0
IsOneText source = (length source ≡ 1) ⊎ ((slice_index_or source 0 0 ≢ 123) × (slice_index_or source 0 0 ≢ 91))

-- Why bytes that come as one end where they do, so that they are as many as can be: behind a newline a line of comments
-- may begin, and with a mark an atom.
pub data IsLongest (text : List ℕ) (at end : ℕ) : Type 0 where
  one_mark : is_mark (slice_index text at) ≡ true → end ≡ at + 1 → IsLongest text at end
  behind_newline : slice_index text (end - 1) ≡ 10 → IsLongest text at end
  before_mark : is_mark (slice_index text end) ≡ true → IsLongest text at end
  at_the_end : length text ≤ end → IsLongest text at end

-- an atom, and the atoms that are still to come before and after it is read: bytes come as one
pub record IsNextAtom (text : List ℕ) (before after : List (Span AtomKind ℕ)) (atom : Atom) : Type 0 where
  pub within : IsWithin (length text) atom
  pub marks : IsRunWhereMarks text atom
  pub bytes : atom.kind ≡ Byte → (before ≡ byte_atoms atom.start (source_in text atom) ++ after) × IsOneText (source_in text atom)
  pub longest : atom.kind ≡ Byte → IsLongest text atom.start (atom.start + atom.len)
  pub other : atom.kind ≢ Byte → before ≡ span_of text atom ∷ after

-- the bytes between two places, each an atom of its own, stand before the atoms behind them
pub record AreBytes (mode : Mode) (text : List ℕ) (at end : ℕ) : Type 0 where
  pub atoms : atoms_from mode text at ≡ byte_atoms at (take (end - at) (drop at text)) ++ atoms_from mode text end
  pub joined : IsOneText (take (end - at) (drop at text))
  pub within : (at < end) × (end ≤ length text)

-- the source of each atom is what its kind says
abbrev pub AreSources : List (Span AtomKind ℕ) → Type 0
AreSources atoms = AllByRecursion (λ (s : Span AtomKind ℕ). IsSourceOf s.kind s.source) atoms

-- the kind of the atom that is read at a place, or of bytes as one, and the place behind it
pub record IsNextAt (mode : Mode) (text : List ℕ) (at : ℕ) (found : AtomKind × ℕ) : Type 0 where
  pub within : (at < found.1) × (found.1 ≤ length text)
  pub next : AreSources (atoms_from mode text at)
      → IsNextAtom text (atoms_from mode text at) (atoms_from mode text found.1) (record { kind = found.0; start = at; len = found.1 - at }) × AreSources (atoms_from mode text found.1)
