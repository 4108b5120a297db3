-- A `<` behind which neither a comment goes on nor a tag that is known.
use Rattle.std.proofs.Common.{◌≡◌, ◌≢◌, ℕ, suc, ◌+◌, ◌<◌, ◌==◌, false, ◌&&◌, if◌then◌else◌, List, [], ◌∷◌, length, get_or, take, drop, codes, Some, None, option_and_then, refl, ap, ap₂, subst, sym, ◌∙◌, arith, drop-cons}
use Rattle.std.proofs.lemmas.List.{get_or-drop}
use Rattle.std.specs.Char.{eq_ignore_ascii_case}
use Rattle.wk_text_rules.specs.Shapes.{Shape, exactly, in_any_case, ◌and_then◌, to_the_end, up_to}
use Rattle.wk_tree_rules.specs.Atoms.{sealed_element, ignored_element, any_tag, silent_tag}
use Rattle.wk_tree_rules.specs.Tags.{closed_comment, comment, tag_rest, opening_tag, end_tag, element}
use Rattle.wk_tree_rules.specs.declared.AtomKind.TheVariants.{Byte}
use Rattle.wk_tree_rules.specs.declared.Mode.{Mode}
use Rattle.wk_tree_rules.specs.declared.Mode.TheVariants.{View, Include}
use Rattle.wk_lex.specs.FirstBytes.{IsNoLineAt, IsNoTagByte}
use Rattle.wk_lex.specs.Places.{EndsAt}
use Rattle.wk_lex.specs.Spans.{IsAtomAt}
use Rattle.wk_lex.proofs.ElementLemmas.{element-none, open_ended-none}
use Rattle.wk_lex.proofs.FirstLemmas.{byte-by_angle}
use Rattle.wk_lex.proofs.PlaceLemmas.{and_then-none, or_else-second}
use Rattle.wk_lex.proofs.PlainLemmas.{other-byte}
use lib.Pointwise.{pointwise}

other-second : (w : ℕ) (ws xs : List ℕ) → get_or xs 0 0 ≢ w → exactly (60 ∷ w ∷ ws) (60 ∷ xs) ≡ None
other-second w ws [] ne = refl
other-second w ws (b ∷ bs) ne =
    ap (λ t. if t && pointwise (λ x y. x == y) ws (take (length ws) bs) then Some (drop (length ws) bs) else None) (other-byte (w == b) w b refl ne)

other-letter : (n : ℕ) (ns xs : List ℕ) → eq_ignore_ascii_case n (get_or xs 0 0) ≡ false → in_any_case (n ∷ ns) xs ≡ None
other-letter n ns [] e = refl
other-letter n ns (b ∷ bs) e = ap (λ t. if t && pointwise eq_ignore_ascii_case ns (take (length ns) bs) then Some (drop (length ns) bs) else None) e

module _ (text : List ℕ) (at : ℕ) (within : at < length text) (is : get_or text at 0 ≡ 60) (no : IsNoTagByte (get_or text (at + 1) 0)) where
  abbrev NotAt : Shape ℕ → Type 0
  NotAt shape = EndsAt shape text at None

  abbrev behind : List ℕ
  behind = drop (at + 1) text

  split : drop at text ≡ 60 ∷ behind
  split =
      let same : suc at ≡ at + 1 = omega arith in
      drop-cons text at 0 within ∙ ap₂ (λ b n. b ∷ drop n text) is same

  second : get_or text (at + 1) 0 ≡ get_or behind 0 0
  second =
      let same : at + 1 + 0 ≡ at + 1 = omega arith in
      sym (get_or-drop (at + 1) text 0 0 ∙ ap (λ n. get_or text n 0) same)

  here : IsNoTagByte (get_or behind 0 0)
  here = subst IsNoTagByte second no

  not-word-by : (w : ℕ) (ws : List ℕ) → get_or behind 0 0 ≢ w → NotAt (exactly (60 ∷ w ∷ ws))
  not-word-by w ws ne = record { fits = ap (exactly (60 ∷ w ∷ ws)) split ∙ other-second w ws behind ne; within = tt }

  no-comment : NotAt comment
  no-comment =
      let start : NotAt (exactly (codes "<!--")) = not-word-by 33 (codes "--") here.bang in
      or_else-second text closed_comment (exactly (codes "<!--") and_then to_the_end) at None
      (and_then-none text (exactly (codes "<!--")) (up_to (exactly (codes "-->"))) at start)
      (and_then-none text (exactly (codes "<!--")) to_the_end at start)

  no-opening_tag : (n : ℕ) (ns : List ℕ) → eq_ignore_ascii_case n (get_or behind 0 0) ≡ false → NotAt (opening_tag (n ∷ ns))
  no-opening_tag n ns e = record { fits = ap (opening_tag (n ∷ ns)) split ∙ ap (option_and_then tag_rest) (other-letter n ns behind e); within = tt }

  no-tag : (n : ℕ) (ns : List ℕ) → eq_ignore_ascii_case n (get_or behind 0 0) ≡ false → NotAt (any_tag (n ∷ ns))
  no-tag n ns e =
      or_else-second text (opening_tag (n ∷ ns)) (end_tag (n ∷ ns)) at None (no-opening_tag n ns e)
      (and_then-none text (exactly (codes "</")) (in_any_case (n ∷ ns) and_then tag_rest) at (not-word-by 47 [] here.slash))

  no-sealed : NotAt sealed_element
  no-sealed =
      or_else-second text (element (codes "nowiki")) (element (codes "pre")) at None
      (element-none (codes "nowiki") text at (no-opening_tag 110 (codes "owiki") here.n)) (element-none (codes "pre") text at (no-opening_tag 112 (codes "re") here.p))

  no-ignored : (mode : Mode) → NotAt (ignored_element mode)
  no-ignored View = open_ended-none (codes "includeonly") text at (no-opening_tag 105 (codes "ncludeonly") here.i)
  no-ignored Include = open_ended-none (codes "noinclude") text at (no-opening_tag 110 (codes "oinclude") here.n)

  no-silent : (mode : Mode) → NotAt (silent_tag mode)
  no-silent View = or_else-second text (any_tag (codes "noinclude")) (any_tag (codes "onlyinclude")) at None (no-tag 110 (codes "oinclude") here.n) (no-tag 111 (codes "nlyinclude") here.o)
  no-silent Include = no-tag 105 (codes "ncludeonly") here.i

  pub angle-alone : (mode : Mode) → IsNoLineAt text at → IsAtomAt mode text at (Byte, at + 1)
  angle-alone mode line = byte-by_angle text at within mode line is no-comment no-sealed (no-ignored mode) (no-silent mode)
