-- Atoms by their first byte.
use Rattle.std.proofs.Common.{◌≡◌, ◌≢◌, ℕ, suc, ◌+◌, ◌<◌, ◌==◌, ◌||◌, inl, inr, Bool, true, false, if◌then◌else◌, List, [], ◌∷◌, ◌++◌, length, get_or, drop, drop-cons, codes, Option, None, Some, option_and_then, ap, ap₂, refl, sym, ◌∙◌, arith}
use Rattle.std.specs.List.{prefix_len}
use Rattle.std.proofs.Math.Bool.{cond}
use Rattle.wk_text_rules.specs.Shapes.{Shape, exactly, run_of, ◌and_then◌, ◌or_else◌, up_to, repeated, one_or_more}
use Rattle.wk_tree_rules.specs.Atoms.{after_newline, sealed_element, ignored_element, silent_tag, run_of_delimiters}
use Rattle.wk_tree_rules.specs.Tags.{is_space_or_tab, closed_comment, comment, line_of_comments}
use Rattle.wk_tree_rules.specs.declared.AtomKind.{AtomKind}
use Rattle.wk_tree_rules.specs.declared.AtomKind.TheVariants.{LineComment, Comment, Sealed, Ignored, Tag, Open, Close, Bar, Equals, Byte}
use Rattle.wk_tree_rules.specs.declared.Mode.{Mode}
use Rattle.wk_lex.specs.FirstBytes.{IsClosing, IsNoLineAt, IsOpening}
use Rattle.wk_lex.specs.Parts.{spaced_comment}
use Rattle.wk_lex.specs.Places.{EndsAt, byte_before}
use Rattle.wk_lex.specs.Spans.{IsAtomAt}
use Rattle.wk_lex.proofs.AtomSteps.{NoneFit, byte-atom, fits-behind}
use Rattle.wk_lex.proofs.PlaceLemmas.{and_then-none, or_else-second, run_then-ends}
use Rattle.wk_lex.proofs.PlainLemmas.{other-byte, not-word, not-run, no-comment, no-sealed, no-ignored, no-silent}

abbrev OpeningRun : Shape ℕ
OpeningRun = run_of_delimiters 123 or_else run_of_delimiters 91

abbrev ClosingRun : Shape ℕ
ClosingRun = run_of_delimiters 125 or_else run_of_delimiters 93

-- a byte that is one isn't another
other-than : (lead b c : ℕ) → lead ≡ b → b ≢ c → lead ≢ c
other-than lead b c is ne e = ne (sym is ∙ e)

-- ---- a byte with which no line of comments begins

pub not-behind : (before : Option ℕ) (shape : Shape ℕ) (text : List ℕ) → shape text ≡ None → after_newline before shape text ≡ None
not-behind None shape text e = refl
not-behind (Some b) shape text e = by_test (b == 10)
  where
    by_test : (t : Bool) → (if t then shape text else None) ≡ None
    by_test true = e
    by_test false = refl

no-run : (text : List ℕ) (at : ℕ) → at < length text → get_or text at 0 ≢ 32 → get_or text at 0 ≢ 9 → prefix_len is_space_or_tab (drop at text) ≡ 0
no-run text at within space tab =
    let b : ℕ = get_or text at 0 in
    ap (prefix_len is_space_or_tab) (drop-cons text at 0 within)
    ∙ ap₂ (λ s t. cond (s || t) (1 + prefix_len is_space_or_tab (drop (suc at) text)) 0) (no-byte b 32 space) (no-byte b 9 tab)
  where
    no-byte : (b w : ℕ) → b ≢ w → (b == w) ≡ false
    no-byte b w ne = other-byte (b == w) b w refl (λ e. ne (sym e))

pub no-line : (text : List ℕ) (at : ℕ) → at < length text → get_or text at 0 ≢ 60 → get_or text at 0 ≢ 32 → get_or text at 0 ≢ 9 → IsNoLineAt text at
no-line text at within angle space tab = record { fits = not-behind (byte_before at text) line_of_comments (drop at text) whole.fits; within = tt }
  where
    no-closed : EndsAt closed_comment text at None
    no-closed = and_then-none text (exactly (codes "<!--")) (up_to (exactly (codes "-->"))) at (not-word text at within 60 (codes "!--") angle)

    no-spaced : EndsAt spaced_comment text at None
    no-spaced = and_then-none text closed_comment (run_of is_space_or_tab) at no-closed

    no-comments : EndsAt (one_or_more spaced_comment) text at None
    no-comments = record { fits = ap (option_and_then (λ rest. repeated (length rest) spaced_comment rest)) no-spaced.fits; within = tt }

    whole : EndsAt line_of_comments text at None
    whole =
        run_then-ends text is_space_or_tab (one_or_more spaced_comment and_then exactly (codes "\n")) at at None
        (record { fits = ap (λ n. drop n (drop at text)) (no-run text at within space tab); within = (omega arith, omega arith) })
        (and_then-none text (one_or_more spaced_comment) (exactly (codes "\n")) at no-comments)

module _ (text : List ℕ) (at : ℕ) (within : at < length text) (mode : Mode) (line : IsNoLineAt text at) where
  abbrev NotAt : Shape ℕ → Type 0
  NotAt shape = EndsAt shape text at None

  abbrev lead : ℕ
  lead = get_or text at 0

  no-opening : lead ≢ 123 → lead ≢ 91 → NotAt OpeningRun
  no-opening brace bracket = or_else-second text (run_of_delimiters 123) (run_of_delimiters 91) at None (not-run text at within 123 brace) (not-run text at within 91 bracket)

  no-closing : lead ≢ 125 → lead ≢ 93 → NotAt ClosingRun
  no-closing brace bracket = or_else-second text (run_of_delimiters 125) (run_of_delimiters 93) at None (not-run text at within 125 brace) (not-run text at within 93 bracket)

  no-bar : lead ≢ 124 → NotAt (exactly (codes "|"))
  no-bar ne = not-word text at within 124 [] ne

  no-equals : lead ≢ 61 → NotAt (exactly (codes "="))
  no-equals ne = not-word text at within 61 [] ne

  -- what is looked for before the runs
  abbrev early : List (AtomKind × Shape ℕ)
  early =
      (LineComment, after_newline (byte_before at text) line_of_comments)
      ∷ (Comment, comment)
      ∷ (Sealed, sealed_element)
      ∷ (Ignored, ignored_element mode)
      ∷ (Tag, silent_tag mode)
      ∷ []

  -- a byte that is no first of a run, no bar and no equals sign
  pub byte-by_angle : lead ≡ 60 → NotAt comment → NotAt sealed_element → NotAt (ignored_element mode) → NotAt (silent_tag mode) → IsAtomAt mode text at (Byte, at + 1)
  byte-by_angle is b c d e =
      byte-atom mode text at within line b c d e
      (no-opening (other-than lead 60 123 is (λ e. absurd (omega arith))) (other-than lead 60 91 is (λ e. absurd (omega arith))))
      (no-closing (other-than lead 60 125 is (λ e. absurd (omega arith))) (other-than lead 60 93 is (λ e. absurd (omega arith))))
      (no-bar (other-than lead 60 124 is (λ e. absurd (omega arith))))
      (no-equals (other-than lead 60 61 is (λ e. absurd (omega arith))))

  module _ (ne : lead ≢ 60) where
    none-early : NoneFit early (drop at text)
    none-early =
        (line.fits, ((no-comment text at within ne).fits, ((no-sealed text at within ne).fits, ((no-ignored text at within ne mode).fits, ((no-silent text at within ne mode).fits, tt)))))

    -- a byte that begins nothing else
    byte-beside : NotAt OpeningRun → NotAt ClosingRun → lead ≢ 124 → lead ≢ 61 → IsAtomAt mode text at (Byte, at + 1)
    byte-beside opening closing bar equals =
        byte-atom mode text at within line (no-comment text at within ne) (no-sealed text at within ne) (no-ignored text at within ne mode) (no-silent text at within ne mode) opening closing (no-bar bar) (no-equals equals)

    open-beside : (end : ℕ) → EndsAt OpeningRun text at (Some end) → IsAtomAt mode text at (Open, end)
    open-beside end here = record {
      fits =
          fits-behind early Open OpeningRun ((Close, ClosingRun) ∷ (Bar, exactly (codes "|")) ∷ (Equals, exactly (codes "=")) ∷ []) (Byte, drop 1 (drop at text)) (drop at text) (drop end text)
          none-early here.fits;
      within = here.within;
    }

    close-beside : (end : ℕ) → NotAt OpeningRun → EndsAt ClosingRun text at (Some end) → IsAtomAt mode text at (Close, end)
    close-beside end opening here = record {
      fits =
          fits-behind (early ++ (Open, OpeningRun) ∷ []) Close ClosingRun ((Bar, exactly (codes "|")) ∷ (Equals, exactly (codes "=")) ∷ []) (Byte, drop 1 (drop at text)) (drop at text) (drop end text)
          (none-with (Open, OpeningRun) opening.fits) here.fits;
      within = here.within;
    }
      where
        none-with : (more : AtomKind × Shape ℕ) → more.1 (drop at text) ≡ None → NoneFit (early ++ more ∷ []) (drop at text)
        none-with more e =
            (line.fits, ((no-comment text at within ne).fits, ((no-sealed text at within ne).fits, ((no-ignored text at within ne mode).fits, ((no-silent text at within ne mode).fits, (e, tt))))))

    one-word : (w : ℕ) → ((rest : List ℕ) → exactly (w ∷ []) (w ∷ rest) ≡ Some rest) → lead ≡ w → EndsAt (exactly (w ∷ [])) text at (Some (at + 1))
    one-word w alone is = record {
      fits =
          ap (exactly (w ∷ [])) (drop-cons text at 0 within)
          ∙ ap (λ b. exactly (w ∷ []) (b ∷ drop (suc at) text)) is
          ∙ alone (drop (suc at) text)
          ∙ ap (λ n. Some (drop n text)) (let s : suc at ≡ at + 1 = omega arith in s);
      within = (omega arith, omega arith);
    }

    bar-beside : NotAt OpeningRun → NotAt ClosingRun → lead ≡ 124 → IsAtomAt mode text at (Bar, at + 1)
    bar-beside opening closing is = let here = one-word 124 (λ rest. refl) is in record {
      fits =
          fits-behind (early ++ (Open, OpeningRun) ∷ (Close, ClosingRun) ∷ []) Bar (exactly (codes "|")) ((Equals, exactly (codes "=")) ∷ []) (Byte, drop 1 (drop at text)) (drop at text) (drop (at + 1) text)
          (line.fits, ((no-comment text at within ne).fits, ((no-sealed text at within ne).fits, ((no-ignored text at within ne mode).fits, ((no-silent text at within ne mode).fits, (opening.fits, (closing.fits, tt)))))))
          here.fits;
      within = here.within;
    }

    equals-beside : NotAt OpeningRun → NotAt ClosingRun → NotAt (exactly (codes "|")) → lead ≡ 61 → IsAtomAt mode text at (Equals, at + 1)
    equals-beside opening closing bar is = let here = one-word 61 (λ rest. refl) is in record {
      fits =
          fits-behind (early ++ (Open, OpeningRun) ∷ (Close, ClosingRun) ∷ (Bar, exactly (codes "|")) ∷ []) Equals (exactly (codes "=")) [] (Byte, drop 1 (drop at text)) (drop at text) (drop (at + 1) text)
          (line.fits, ((no-comment text at within ne).fits, ((no-sealed text at within ne).fits, ((no-ignored text at within ne mode).fits, ((no-silent text at within ne mode).fits, (opening.fits, (closing.fits, (bar.fits, tt))))))))
          here.fits;
      within = here.within;
    }

  -- ---- by the byte

  pub open-by_mark : (end : ℕ) → IsOpening lead → EndsAt OpeningRun text at (Some end) → IsAtomAt mode text at (Open, end)
  open-by_mark end (inl is) here = open-beside (other-than lead 123 60 is (λ e. absurd (omega arith))) end here
  open-by_mark end (inr is) here = open-beside (other-than lead 91 60 is (λ e. absurd (omega arith))) end here

  byte-by_opening : (b : ℕ) → lead ≡ b → b ≢ 60 → b ≢ 125 → b ≢ 93 → b ≢ 124 → b ≢ 61 → NotAt OpeningRun → IsAtomAt mode text at (Byte, at + 1)
  byte-by_opening b is a c d e f opening =
      byte-beside (other-than lead b 60 is a) opening (no-closing (other-than lead b 125 is c) (other-than lead b 93 is d)) (other-than lead b 124 is e) (other-than lead b 61 is f)

  pub byte-by_opening_mark : IsOpening lead → NotAt OpeningRun → IsAtomAt mode text at (Byte, at + 1)
  byte-by_opening_mark (inl is) opening =
      byte-by_opening 123 is (λ e. absurd (omega arith)) (λ e. absurd (omega arith)) (λ e. absurd (omega arith)) (λ e. absurd (omega arith)) (λ e. absurd (omega arith)) opening
  byte-by_opening_mark (inr is) opening =
      byte-by_opening 91 is (λ e. absurd (omega arith)) (λ e. absurd (omega arith)) (λ e. absurd (omega arith)) (λ e. absurd (omega arith)) (λ e. absurd (omega arith)) opening

  closing-beside : (b : ℕ) → lead ≡ b → b ≢ 123 → b ≢ 91 → NotAt OpeningRun
  closing-beside b is c d = no-opening (other-than lead b 123 is c) (other-than lead b 91 is d)

  pub close-by_mark : (end : ℕ) → IsClosing lead → EndsAt ClosingRun text at (Some end) → IsAtomAt mode text at (Close, end)
  close-by_mark end (inl is) here =
      close-beside (other-than lead 125 60 is (λ e. absurd (omega arith))) end (closing-beside 125 is (λ e. absurd (omega arith)) (λ e. absurd (omega arith))) here
  close-by_mark end (inr is) here =
      close-beside (other-than lead 93 60 is (λ e. absurd (omega arith))) end (closing-beside 93 is (λ e. absurd (omega arith)) (λ e. absurd (omega arith))) here

  byte-by_closing : (b : ℕ) → lead ≡ b → b ≢ 60 → b ≢ 123 → b ≢ 91 → b ≢ 124 → b ≢ 61 → NotAt ClosingRun → IsAtomAt mode text at (Byte, at + 1)
  byte-by_closing b is a c d e f closing =
      byte-beside (other-than lead b 60 is a) (closing-beside b is c d) closing (other-than lead b 124 is e) (other-than lead b 61 is f)

  pub byte-by_closing_mark : IsClosing lead → NotAt ClosingRun → IsAtomAt mode text at (Byte, at + 1)
  byte-by_closing_mark (inl is) closing =
      byte-by_closing 125 is (λ e. absurd (omega arith)) (λ e. absurd (omega arith)) (λ e. absurd (omega arith)) (λ e. absurd (omega arith)) (λ e. absurd (omega arith)) closing
  byte-by_closing_mark (inr is) closing =
      byte-by_closing 93 is (λ e. absurd (omega arith)) (λ e. absurd (omega arith)) (λ e. absurd (omega arith)) (λ e. absurd (omega arith)) (λ e. absurd (omega arith)) closing

  pub bar-by_mark : lead ≡ 124 → IsAtomAt mode text at (Bar, at + 1)
  bar-by_mark is =
      bar-beside (other-than lead 124 60 is (λ e. absurd (omega arith))) (closing-beside 124 is (λ e. absurd (omega arith)) (λ e. absurd (omega arith)))
      (no-closing (other-than lead 124 125 is (λ e. absurd (omega arith))) (other-than lead 124 93 is (λ e. absurd (omega arith)))) is

  pub equals-by_mark : lead ≡ 61 → IsAtomAt mode text at (Equals, at + 1)
  equals-by_mark is =
      equals-beside (other-than lead 61 60 is (λ e. absurd (omega arith))) (closing-beside 61 is (λ e. absurd (omega arith)) (λ e. absurd (omega arith)))
      (no-closing (other-than lead 61 125 is (λ e. absurd (omega arith))) (other-than lead 61 93 is (λ e. absurd (omega arith))))
      (no-bar (other-than lead 61 124 is (λ e. absurd (omega arith)))) is
