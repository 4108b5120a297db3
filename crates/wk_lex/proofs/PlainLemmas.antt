-- Places at which a plain byte stands.
use Rattle.std.proofs.Common.{◌≡◌, ◌≢◌, ℕ, suc, ◌+◌, ◌<◌, ◌==◌, Bool, true, false, ◌&&◌, if◌then◌else◌, List, [], ◌∷◌, length, get_or, take, drop, codes, Option, Some, None, refl, ap, subst, ◌∙◌, eqb-true, drop-cons}
use Rattle.wk_text_rules.specs.Shapes.{exactly, in_any_case, run_of, ◌and_then◌, to_the_end, up_to}
use Rattle.wk_tree_rules.specs.Atoms.{after_newline, sealed_element, ignored_element, any_tag, silent_tag, run_of_delimiters}
use Rattle.wk_tree_rules.specs.Tags.{closed_comment, comment, line_of_comments, tag_rest, opening_tag, end_tag, element}
use Rattle.wk_tree_rules.specs.declared.AtomKind.TheVariants.{Byte}
use Rattle.wk_tree_rules.specs.declared.Mode.{Mode}
use Rattle.wk_tree_rules.specs.declared.Mode.TheVariants.{View, Include}
use Rattle.wk_lex.specs.Places.{EndsAt, byte_before}
use Rattle.wk_lex.specs.Spans.{IsAtomAt, IsPlain}
use Rattle.wk_lex.proofs.AtomSteps.{byte-atom}
use Rattle.wk_lex.proofs.ElementLemmas.{element-none, open_ended-none}
use Rattle.wk_lex.proofs.PlaceLemmas.{and_then-none, or_else-second}
use lib.Pointwise.{pointwise}

pub other-byte : (t : Bool) (w b : ℕ) → (w == b) ≡ t → b ≢ w → t ≡ false
other-byte true w b e ne = absurd (ne (sym-of (eqb-true w b e)))
  where
    sym-of : w ≡ b → b ≡ w
    sym-of e = cc
other-byte false w b e ne = refl

other-word : (w b : ℕ) (ws bs : List ℕ) → b ≢ w → exactly (w ∷ ws) (b ∷ bs) ≡ None
other-word w b ws bs ne =
    ap (λ t. if t && pointwise (λ x y. x == y) ws (take (length ws) bs) then Some (drop (length ws) bs) else None) (other-byte (w == b) w b refl ne)

module _ (text : List ℕ) (at : ℕ) (within : at < length text) where
  abbrev NotAt : (List ℕ → Option (List ℕ)) → Type 0
  NotAt shape = EndsAt shape text at None

  pub not-word : (w : ℕ) (ws : List ℕ) → get_or text at 0 ≢ w → NotAt (exactly (w ∷ ws))
  not-word w ws ne = record { fits = ap (exactly (w ∷ ws)) (drop-cons text at 0 within) ∙ other-word w (get_or text at 0) ws (drop (suc at) text) ne; within = tt }

  pub not-run : (mark : ℕ) → get_or text at 0 ≢ mark → NotAt (run_of_delimiters mark)
  not-run mark ne = and_then-none text (exactly (mark ∷ mark ∷ [])) (run_of (λ b. b == mark)) at (not-word mark (mark ∷ []) ne)

  module _ (ne : get_or text at 0 ≢ 60) where
    pub no-comment : NotAt comment
    no-comment =
        let start : NotAt (exactly (codes "<!--")) = not-word 60 (codes "!--") ne in
        or_else-second text closed_comment (exactly (codes "<!--") and_then to_the_end) at None
        (and_then-none text (exactly (codes "<!--")) (up_to (exactly (codes "-->"))) at start)
        (and_then-none text (exactly (codes "<!--")) to_the_end at start)

    no-opening_tag : (name : List ℕ) → NotAt (opening_tag name)
    no-opening_tag name = and_then-none text (exactly (codes "<")) (in_any_case name and_then tag_rest) at (not-word 60 [] ne)

    no-end_tag : (name : List ℕ) → NotAt (end_tag name)
    no-end_tag name = and_then-none text (exactly (codes "</")) (in_any_case name and_then tag_rest) at (not-word 60 (codes "/") ne)

    no-tag : (name : List ℕ) → NotAt (any_tag name)
    no-tag name = or_else-second text (opening_tag name) (end_tag name) at None (no-opening_tag name) (no-end_tag name)

    pub no-sealed : NotAt sealed_element
    no-sealed =
        or_else-second text (element (codes "nowiki")) (element (codes "pre")) at None
        (element-none (codes "nowiki") text at (no-opening_tag (codes "nowiki"))) (element-none (codes "pre") text at (no-opening_tag (codes "pre")))

    pub no-ignored : (mode : Mode) → NotAt (ignored_element mode)
    no-ignored View = open_ended-none (codes "includeonly") text at (no-opening_tag (codes "includeonly"))
    no-ignored Include = open_ended-none (codes "noinclude") text at (no-opening_tag (codes "noinclude"))

    pub no-silent : (mode : Mode) → NotAt (silent_tag mode)
    no-silent View = or_else-second text (any_tag (codes "noinclude")) (any_tag (codes "onlyinclude")) at None (no-tag (codes "noinclude")) (no-tag (codes "onlyinclude"))
    no-silent Include = no-tag (codes "includeonly")

  plain-atom : (mode : Mode) → NotAt (after_newline (byte_before at text) line_of_comments) → IsPlain (get_or text at 0) → IsAtomAt mode text at (Byte, at + 1)
  plain-atom mode line plain =
      byte-atom mode text at within line (no-comment plain.angle) (no-sealed plain.angle) (no-ignored plain.angle mode) (no-silent plain.angle mode)
      (or_else-second text (run_of_delimiters 123) (run_of_delimiters 91) at None (not-run 123 plain.open_brace) (not-run 91 plain.open_bracket))
      (or_else-second text (run_of_delimiters 125) (run_of_delimiters 93) at None (not-run 125 plain.close_brace) (not-run 93 plain.close_bracket))
      (not-word 124 [] plain.bar) (not-word 61 [] plain.equals)

-- the same in what a text is seen as
pub plain-seen : (mode : Mode) (whole text : List ℕ) (at : ℕ) → whole ≡ text → at < length whole → EndsAt (after_newline (byte_before at whole) line_of_comments) whole at None → IsPlain (get_or whole at 0) → IsAtomAt mode text at (Byte, at + 1)
plain-seen mode whole text at same within line plain = subst (λ t. IsAtomAt mode t at (Byte, at + 1)) same (plain-atom whole at within mode line plain)
