-- A text without any mark.
use Rattle.std.proofs.Common.{◌≡◌, ℕ, zero, suc, ◌+◌, ◌-◌, ◌<◌, ◌≤◌, ◌⊎◌, ◌||◌, inl, inr, Bool, true, false, not, List, [], length, get_or, drop, drop-cons, codes, None, option_and_then, ap, refl, sym, subst, ◌∙◌, arith, length-drop}
use Rattle.std.proofs.Math.ListN.{drop_of_length-le}
use Rattle.std.proofs.lemmas.Bool.{cases_lt}
use Rattle.std.proofs.lemmas.List.{drop-drop}
use Rattle.std.proofs.lemmas.List.Sums.{prefix_len-le-length}
use Rattle.std.specs.List.{list_any, prefix_len}
use Rattle.wk_text_rules.specs.Shapes.{exactly, run_of, ◌and_then◌, up_to, repeated, one_or_more}
use Rattle.wk_tree_laws.proofs.AtomLemmas.{atoms-sources}
use Rattle.wk_tree_rules.specs.Atoms.{atom_at, atoms}
use Rattle.wk_tree_rules.specs.Tags.{is_space_or_tab, closed_comment, line_of_comments}
use Rattle.wk_tree_rules.specs.declared.AtomKind.TheVariants.{Byte}
use Rattle.wk_tree_rules.specs.declared.Mode.{Mode}
use Rattle.wk_lex.specs.Ahead.{atoms_from, AreBytes, AreSources, IsNextAtom, at_the_end}
use Rattle.wk_lex.specs.FirstBytes.{IsNoLineAt}
use Rattle.wk_lex.specs.Parts.{spaced_comment}
use Rattle.wk_lex.specs.Places.{EndsAt, byte_before}
use Rattle.wk_lex.specs.Spans.{is_mark, IsAtomAt, IsPlain}
use Rattle.wk_lex.proofs.FirstLemmas.{not-behind}
use Rattle.wk_lex.proofs.LexerLemmas.{atoms-all, bytes-more, bytes-one, marked_byte, next-bytes}
use Rattle.wk_lex.proofs.PlaceLemmas.{and_then-none, run_then-ends}
use Rattle.wk_lex.proofs.PlainLemmas.{not-word, plain-seen}
use Rattle.wk_lex.proofs.SpanSteps.{spans_at-end}

-- one more byte is plain
pub plain-more : (text : List ℕ) (at : ℕ) → ((i : ℕ) → i < at → IsPlain (get_or text i 0)) → IsPlain (get_or text at 0) → (i : ℕ) → i < at + 1 → IsPlain (get_or text i 0)
plain-more text at before here i within = either (cases_lt i at)
  where
    either : (i < at) ⊎ (at ≤ i) → IsPlain (get_or text i 0)
    either (inl less) = before i less
    either (inr more) = subst (λ n. IsPlain (get_or text n 0)) (let e : at ≡ i = omega (arith, within, more) in e) here

-- ---- whether a mark stands behind a place

marks-from : (text : List ℕ) (at : ℕ) → at < length text → list_any is_mark (drop at text) ≡ (is_mark (get_or text at 0) || list_any is_mark (drop (at + 1) text))
marks-from text at within =
    let next : suc at ≡ at + 1 = omega arith in
    ap (list_any is_mark) (drop-cons text at 0 within) ∙ ap (λ n. is_mark (get_or text at 0) || list_any is_mark (drop n text)) next

-- none stands at the place
pub marks-passed : (text : List ℕ) (at : ℕ) → at < length text → true ≡ not (is_mark (get_or text at 0)) → list_any is_mark (drop at text) ≡ list_any is_mark (drop (at + 1) text)
marks-passed text at within other = marks-from text at within ∙ ap (λ t. t || list_any is_mark (drop (at + 1) text)) (no-mark (is_mark (get_or text at 0)) other)
  where
    no-mark : (mark : Bool) → true ≡ not mark → mark ≡ false
    no-mark true e = absurd (cc)
    no-mark false e = refl

-- one stands at the place
pub marks-found : (text : List ℕ) (at : ℕ) → at < length text → false ≡ not (is_mark (get_or text at 0)) → list_any is_mark (drop at text) ≡ true
marks-found text at within other = marks-from text at within ∙ ap (λ t. t || list_any is_mark (drop (at + 1) text)) (marked_byte (is_mark (get_or text at 0)) other)

-- none stands behind the end
pub marks-none : (text : List ℕ) (at : ℕ) → length text ≤ at → list_any is_mark (drop at text) ≡ false
marks-none text at behind = ap (list_any is_mark) (drop_of_length-le text behind)

module _ (text : List ℕ) (plain : (i : ℕ) → i < length text → IsPlain (get_or text i 0)) where
  no-comment-start : (at : ℕ) → EndsAt (exactly (codes "<!--")) text at None
  no-comment-start at = either (cases_lt at (length text))
    where
      either : (at < length text) ⊎ (length text ≤ at) → EndsAt (exactly (codes "<!--")) text at None
      either (inl within) = not-word text at within 60 (codes "!--") (plain at within).angle
      either (inr behind) = record { fits = ap (exactly (codes "<!--")) (drop_of_length-le text behind); within = tt }

  -- no line of comments begins there
  no-line-there : (at : ℕ) → at < length text → IsNoLineAt text at
  no-line-there at within = record { fits = not-behind (byte_before at text) line_of_comments (drop at text) whole.fits; within = tt }
    where
      spaces : ℕ
      spaces = prefix_len is_space_or_tab (drop at text)

      no-spaced : EndsAt spaced_comment text (at + spaces) None
      no-spaced =
          and_then-none text closed_comment (run_of is_space_or_tab) (at + spaces)
          (and_then-none text (exactly (codes "<!--")) (up_to (exactly (codes "-->"))) (at + spaces) (no-comment-start (at + spaces)))

      no-comments : EndsAt (one_or_more spaced_comment) text (at + spaces) None
      no-comments = record { fits = ap (option_and_then (λ rest. repeated (length rest) spaced_comment rest)) no-spaced.fits; within = tt }

      whole : EndsAt line_of_comments text at None
      whole =
          run_then-ends text is_space_or_tab (one_or_more spaced_comment and_then exactly (codes "\n")) at (at + spaces) None
          (record { fits = drop-drop spaces at text; within = (omega arith, omega (arith, within, prefix_len-le-length is_space_or_tab (drop at text), length-drop at text)) })
          (and_then-none text (one_or_more spaced_comment) (exactly (codes "\n")) (at + spaces) no-comments)

  module _ (mode : Mode) where
    byte-there : (at : ℕ) → at < length text → IsAtomAt mode text at (Byte, at + 1)
    byte-there at within = plain-seen mode text text at refl within (no-line-there at within) (plain at within)

    bytes-to : (n : ℕ) → n < length text → AreBytes mode text 0 (n + 1)
    bytes-to zero within = bytes-one mode text 0 (byte-there 0 within)
    bytes-to (suc n) within =
        let e : n + 1 ≡ suc n = omega arith in
        bytes-more mode text 0 (suc n) (plain 0 (omega (arith, within))) (subst (AreBytes mode text 0) e (bytes-to n (omega (arith, within)))) (byte-there (suc n) within)

    -- the whole text comes as one
    pub next-all : 0 < length text → IsNextAtom text (atoms mode text) [] (record { kind = Byte; start = 0; len = length text })
    next-all some =
        let last : length text - 1 + 1 ≡ length text = omega (arith, some) in
        let bytes = subst (AreBytes mode text 0) last (bytes-to (length text - 1) (omega (arith, some))) in
        let next = next-bytes mode text 0 Byte (length text) refl bytes (at_the_end (omega arith)) in
        let first = (next.next (subst AreSources (sym (atoms-all mode text)) (atoms-sources mode text))).0 in
        let long : length text - 0 ≡ length text = omega arith in
        let none : atoms_from mode text (length text) ≡ [] = spans_at-end (atom_at mode) text (length text) (drop_of_length-le text (omega arith)) in
        subst (λ n. IsNextAtom text (atoms mode text) [] (record { kind = Byte; start = 0; len = n })) long
        (subst (λ a. IsNextAtom text (atoms mode text) a (record { kind = Byte; start = 0; len = length text - 0 })) none
        (subst (λ b. IsNextAtom text b (atoms_from mode text (length text)) (record { kind = Byte; start = 0; len = length text - 0 })) (atoms-all mode text) first))
