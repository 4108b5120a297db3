-- Atoms one at a time.
use Rattle.std.proofs.Common.{◌≡◌, ℕ, ◌+◌, ◌-◌, ◌<◌, ◌≤◌, ◌⊎◌, inl, inr, List, [], ◌∷◌, ◌++◌, length, take, drop, map, replicate, codes, Option, Some, None, refl, ap, sym, subst, ◌∙◌, arith, append_assoc, append-nil, length-drop}
use Rattle.std.proofs.lemmas.List.{drop-drop, map-append}
use Rattle.std.proofs.lemmas.List.Elements.{All-nil, All-cons}
use Rattle.std.specs.List.{All, AllByRecursion}
use Rattle.wk_text_rules.specs.Shapes.{Shape, Span, exactly, first_that_fits, ◌or_else◌}
use Rattle.wk_tree_laws.proofs.AtomLemmas.{IsSourceOf, atoms-sources}
use Rattle.wk_tree_rules.specs.Atoms.{after_newline, sealed_element, ignored_element, silent_tag, run_of_delimiters, atom_shapes, atom_at, atoms}
use Rattle.wk_tree_rules.specs.Reduction.{Delimiter, braces, brackets, delimiters_of, opening_delimiter, closing_delimiter}
use Rattle.wk_tree_rules.specs.Tags.{comment, line_of_comments}
use Rattle.wk_tree_rules.specs.declared.AtomKind.{AtomKind}
use Rattle.wk_tree_rules.specs.declared.AtomKind.TheVariants.{LineComment, Comment, Sealed, Ignored, Tag, Open, Close, Bar, Equals, Byte}
use Rattle.wk_tree_rules.specs.declared.Mode.{Mode}
use Rattle.wk_lex.specs.Places.{EndsAt, byte_before}
use Rattle.wk_lex.specs.Spans.{source_in, span_of, IsAtomAt, IsRow, IsWithin, IsRunOf, IsRunByKind, IsRunWhereMarks}
use Rattle.wk_lex.specs.declared.atom.Atom.{Atom}
use Rattle.wk_lex.proofs.SpanSteps.{spans_at, span_at, spans_at-step, spans_at-end}

-- ---- a place at which no shape fits

abbrev pub NoneFit : {K : Type 0} → List (K × Shape ℕ) → List ℕ → Type 0
NoneFit [] text = Unit {0}
NoneFit (alternative ∷ alternatives) text = (alternative.1 text ≡ None) × NoneFit alternatives text

none_fit-otherwise : {K : Type 0} (alternatives : List (K × Shape ℕ)) (otherwise : K × List ℕ) (text : List ℕ) → NoneFit alternatives text → first_that_fits alternatives otherwise text ≡ otherwise
none_fit-otherwise [] otherwise text none = refl
none_fit-otherwise {K} (alternative ∷ alternatives) otherwise text none =
    ap (λ o. elim o as (λ _. K × List ℕ) [ Some rest ↦ (alternative.0, rest) | None ↦ first_that_fits alternatives otherwise text ]) none.0
    ∙ none_fit-otherwise alternatives otherwise text none.1

-- the first that fits, behind some that don't
pub fits-behind : {K : Type 0} (passed : List (K × Shape ℕ)) (kind : K) (shape : Shape ℕ) (alternatives : List (K × Shape ℕ)) (otherwise : K × List ℕ) (text rest : List ℕ) → NoneFit passed text → shape text ≡ Some rest → first_that_fits (passed ++ (kind, shape) ∷ alternatives) otherwise text ≡ (kind, rest)
fits-behind {K} [] kind shape alternatives otherwise text rest none e =
    ap (λ o. elim o as (λ _. K × List ℕ) [ Some r ↦ (kind, r) | None ↦ first_that_fits alternatives otherwise text ]) e
fits-behind {K} (alternative ∷ passed) kind shape alternatives otherwise text rest none e =
    ap (λ o. elim o as (λ _. K × List ℕ) [ Some r ↦ (alternative.0, r) | None ↦ first_that_fits (passed ++ (kind, shape) ∷ alternatives) otherwise text ]) none.0
    ∙ fits-behind passed kind shape alternatives otherwise text rest none.1 e

pub moved : (shape : Shape ℕ) (whole text : List ℕ) (at : ℕ) (end : Option ℕ) → whole ≡ text → EndsAt shape whole at end → EndsAt shape text at end
moved shape whole text at end same h = subst (λ t. EndsAt shape t at end) same h

module _ (mode : Mode) (text : List ℕ) (at : ℕ) where
  abbrev NotAt : Shape ℕ → Type 0
  NotAt shape = EndsAt shape text at None

  pub byte-atom : at < length text → NotAt (after_newline (byte_before at text) line_of_comments) → NotAt comment → NotAt sealed_element → NotAt (ignored_element mode) → NotAt (silent_tag mode)
      → NotAt (run_of_delimiters 123 or_else run_of_delimiters 91) → NotAt (run_of_delimiters 125 or_else run_of_delimiters 93) → NotAt (exactly (codes "|")) → NotAt (exactly (codes "="))
      → IsAtomAt mode text at (Byte, at + 1)
  byte-atom within a b c d e f g h i = record {
    fits =
        none_fit-otherwise (atom_shapes mode (byte_before at text)) (Byte, drop 1 (drop at text)) (drop at text)
        (a.fits, (b.fits, (c.fits, (d.fits, (e.fits, (f.fits, (g.fits, (h.fits, (i.fits, tt)))))))))
        ∙ ap (λ rest. (Byte, rest)) (drop-drop 1 at text);
    within = (omega arith, omega arith);
  }

  -- the same where some shapes were looked for in what the text is seen as
  pub byte-seen : at < length text → (whole : List ℕ) → whole ≡ text → EndsAt (after_newline (byte_before at whole) line_of_comments) whole at None → EndsAt comment whole at None → NotAt sealed_element → NotAt (ignored_element mode) → NotAt (silent_tag mode)
      → EndsAt (run_of_delimiters 123 or_else run_of_delimiters 91) whole at None → EndsAt (run_of_delimiters 125 or_else run_of_delimiters 93) whole at None → EndsAt (exactly (codes "|")) whole at None → EndsAt (exactly (codes "=")) whole at None
      → IsAtomAt mode text at (Byte, at + 1)
  byte-seen within whole same a b c d e f g h i =
      byte-atom within (subst (λ t. EndsAt (after_newline (byte_before at t) line_of_comments) t at None) same a) (here comment b) c d e
      (here (run_of_delimiters 123 or_else run_of_delimiters 91) f) (here (run_of_delimiters 125 or_else run_of_delimiters 93) g) (here (exactly (codes "|")) h) (here (exactly (codes "=")) i)
    where
      here : (shape : Shape ℕ) → EndsAt shape whole at None → NotAt shape
      here shape none = moved shape whole text at None same none

-- ---- one atom more

abbrev pub atom_from : AtomKind → ℕ → ℕ → Atom
atom_from kind at end = record { kind = kind; start = at; len = end - at }

module _ (mode : Mode) (text : List ℕ) where
  -- what is found and what is still to come are all atoms
  abbrev pub AreFound : List Atom → ℕ → Type 0
  AreFound found at = map (span_of text) found ++ spans_at (atom_at mode) text at ≡ atoms mode text

  pub found-none : AreFound [] 0
  unfolding atoms
  found-none = refl

  pub found-more : (found : List Atom) (at : ℕ) (next : AtomKind × ℕ) → IsAtomAt mode text at next → AreFound found at → AreFound (found ++ atom_from next.0 at next.1 ∷ []) next.1
  found-more found at next here before =
      let left : length (atom_at mode (byte_before at text) (drop at text)).1 ≡ length text - next.1 = ap (λ (p : AtomKind × List ℕ). length p.1) here.fits ∙ length-drop next.1 text in
      let step : spans_at (atom_at mode) text at ≡ span_at (atom_at mode) text at next.1 ∷ spans_at (atom_at mode) text next.1 =
      spans_at-step (atom_at mode) text at next.1 here.within.0 here.within.1 left in
      let kind : (atom_at mode (byte_before at text) (drop at text)).0 ≡ next.0 = ap (λ (p : AtomKind × List ℕ). p.0) here.fits in
      let same : span_of text (atom_from next.0 at next.1) ≡ span_at (atom_at mode) text at next.1 =
      ap (λ k. record { kind = k; start = at; source = take (next.1 - at) (drop at text) }) (sym kind) in
      ap (λ s. s ++ spans_at (atom_at mode) text next.1) (map-append (span_of text) found (atom_from next.0 at next.1 ∷ []))
      ∙ append_assoc (map (span_of text) found) (span_of text (atom_from next.0 at next.1) ∷ []) (spans_at (atom_at mode) text next.1)
      ∙ ap (λ s. map (span_of text) found ++ (s ∷ spans_at (atom_at mode) text next.1)) same
      ∙ ap (λ s. map (span_of text) found ++ s) (sym step)
      ∙ before

  pub found-all : (found : List Atom) (at : ℕ) → drop at text ≡ [] → AreFound found at → map (span_of text) found ≡ atoms mode text
  found-all found at e all =
      sym (append-nil (map (span_of text) found)) ∙ ap (λ s. map (span_of text) found ++ s) (sym (spans_at-end (atom_at mode) text at e)) ∙ all

  -- ---- runs

  either-mark : (side : Delimiter → ℕ) (source : List ℕ) (marks : Delimiter) → 2 ≤ length source → replicate (length source) (side marks) ≡ source → IsRunOf (side braces) source ⊎ IsRunOf (side brackets) source
  either-mark side source braces long e = inl (record { long = long; marks = sym e })
  either-mark side source brackets long e = inr (record { long = long; marks = sym e })

  pub run-by_kind : (kind : AtomKind) (source : List ℕ) → IsSourceOf kind source → IsRunByKind kind source
  run-by_kind LineComment source h = tt
  run-by_kind Comment source h = tt
  run-by_kind Sealed source h = tt
  run-by_kind Ignored source h = tt
  run-by_kind Tag source h = tt
  run-by_kind Open source h = either-mark opening_delimiter source (delimiters_of source) h.long h.delimiters
  run-by_kind Close source h = either-mark closing_delimiter source (delimiters_of source) h.long h.delimiters
  run-by_kind Bar source h = tt
  run-by_kind Equals source h = tt
  run-by_kind Byte source h = tt

  runs-by : (found : List Atom) → AllByRecursion (λ (s : Span AtomKind ℕ). IsSourceOf s.kind s.source) (map (span_of text) found) → All (IsRunWhereMarks text) found
  runs-by [] all = All-nil (IsRunWhereMarks text)
  runs-by (atom ∷ found) all = All-cons (IsRunWhereMarks text) atom found (run-by_kind atom.kind (source_in text atom) all.0) (runs-by found all.1)

  pub found-runs : (found : List Atom) → map (span_of text) found ≡ atoms mode text → All (IsRunWhereMarks text) found
  found-runs found e = runs-by found (subst (AllByRecursion (λ (s : Span AtomKind ℕ). IsSourceOf s.kind s.source)) (sym e) (atoms-sources mode text))

-- ---- a row

pub row-more : (start at : ℕ) (found : List Atom) (kind : AtomKind) (end : ℕ) → at < end → IsRow start at found → IsRow start end (found ++ atom_from kind at end ∷ [])
row-more start at [] kind end low row = (sym row, omega arith, omega arith)
row-more start at (atom ∷ found) kind end low row = (row.0, row.1, row-more (start + atom.len) at found kind end low row.2)

row-le : (start end : ℕ) (found : List Atom) → IsRow start end found → start ≤ end
row-le start end [] row = omega arith
row-le start end (atom ∷ found) row = let later : start + atom.len ≤ end = row-le (start + atom.len) end found row.2 in omega arith

pub row-within : (start end : ℕ) (found : List Atom) → IsRow start end found → All (IsWithin end) found
row-within start end [] row = All-nil (IsWithin end)
row-within start end (atom ∷ found) row =
    let later : start + atom.len ≤ end = row-le (start + atom.len) end found row.2 in
    All-cons (IsWithin end) atom found (record { some = row.1; bounded = subst (λ n. n + atom.len ≤ end) (sym row.0) later }) (row-within (start + atom.len) end found row.2)
