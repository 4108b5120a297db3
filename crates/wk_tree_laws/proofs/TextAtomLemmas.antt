-- Atoms cut a text of UTF-8 between its characters: the source of each but a single byte is UTF-8.
use Rattle.std.proofs.Common.{◌≡◌, ℕ, ◌<◌, ◌==◌, Bool, true, false, if◌then◌else◌, List, [], ◌∷◌, ◌++◌, length, codes, nat_lt, Option, Some, None, refl, sym, subst, arith, append_assoc, IsUtf8}
use Rattle.std.proofs.lemmas.Bool.Decides.{nat_tests}
use Rattle.std.specs.List.{AllByRecursion, list_all, ends_with}
use Rattle.wk_text_rules.specs.Blank.{is_blank_byte}
use Rattle.wk_text_rules.specs.Shapes.{Shape, exactly, in_any_case, one_of, run_of, ◌and_then◌, ◌or_else◌, to_the_end, up_to, one_or_more}
use Rattle.wk_tree_laws.proofs.AtomLemmas.{first_that_fits-each, covered}
use Rattle.wk_tree_laws.proofs.CutLemmas.{IsAsciiByte, back-at_ascii, front-utf8}
use Rattle.wk_tree_laws.proofs.ShapeLemmas.{part-is}
use Rattle.wk_tree_laws.proofs.SpanLemmas.{spans-all-of}
use Rattle.wk_tree_laws.proofs.TextShapeLemmas.{CutsText, BeginsAscii, IsAsciiTest, exactly-cuts, exactly-begins, in_any_case-cuts, one_of-cuts, run_of-cuts, and_then-cuts, and_then-begins, or_else-cuts, or_else-begins, to_the_end-cuts, up_to-cuts, such_that-cuts, such_that-begins, one_or_more-cuts, one_or_more-begins, run_then-begins, both}
use Rattle.wk_tree_rules.specs.Atoms.{Atom, atoms, atom_at, atom_shapes, after_newline, sealed_element, ignored_element, any_tag, silent_tag}
use Rattle.wk_tree_rules.specs.Tags.{is_space_or_tab, is_name_end, closed_comment, comment, line_of_comments, tag_rest, opening_tag, end_tag, tag_closed_in_itself, element_end, element, open_ended_element}
use Rattle.wk_tree_rules.specs.declared.AtomKind.{AtomKind}
use Rattle.wk_tree_rules.specs.declared.AtomKind.TheVariants.{LineComment, Comment, Sealed, Ignored, Tag, Open, Close, Bar, Equals, Byte}
use Rattle.wk_tree_rules.specs.declared.Mode.{Mode}
use Rattle.wk_tree_rules.specs.declared.Mode.TheVariants.{View, Include}

-- ---- words and tests of ASCII

byte-low : (b : ℕ) → nat_lt b 128 ≡ true → b < 128
byte-low b e = grind (arith, nat_tests)

-- a word that passes the test byte by byte is of ASCII
pub ascii-by : (word : List ℕ) → list_all (λ b. nat_lt b 128) word ≡ true → AllByRecursion IsAsciiByte word
ascii-by [] e = tt
ascii-by (b ∷ word) e =
    let parts = both (nat_lt b 128) (list_all (λ x. nat_lt x 128) word) e in
    (byte-low b parts.0, ascii-by word parts.1)

space_or_tab-ascii : IsAsciiTest is_space_or_tab
space_or_tab-ascii b e = grind (arith, nat_tests)

name_end-ascii : IsAsciiTest is_name_end
name_end-ascii b e = grind (arith, nat_tests)

blank-ascii : IsAsciiTest is_blank_byte
blank-ascii b e = grind (arith, nat_tests)

-- ---- both facts of a shape at once

-- a shape that cuts a text between its characters and begins with ASCII
pub record IsTextShape (shape : Shape ℕ) : Type 0 where
  pub cuts : CutsText shape
  pub begins : BeginsAscii shape

pub word : (b : ℕ) (rest : List ℕ) → list_all (λ x. nat_lt x 128) (b ∷ rest) ≡ true → IsTextShape (exactly (b ∷ rest))
word b rest e = let ascii = ascii-by (b ∷ rest) e in record { cuts = exactly-cuts (b ∷ rest) ascii; begins = exactly-begins b rest ascii.0 }

behind : (f g : Shape ℕ) → IsTextShape f → CutsText g → IsTextShape (f and_then g)
behind f g a b = record { cuts = and_then-cuts f g a.cuts b; begins = and_then-begins f g a.begins b }

either : (f g : Shape ℕ) → IsTextShape f → IsTextShape g → IsTextShape (f or_else g)
either f g a b = record { cuts = or_else-cuts f g a.cuts b.cuts; begins = or_else-begins f g a.begins b.begins }

up_to-text : (shape : Shape ℕ) → IsTextShape shape → CutsText (up_to shape)
up_to-text shape a = up_to-cuts shape a.cuts a.begins

-- ---- comments

closed_comment-text : IsTextShape closed_comment
closed_comment-text = behind (exactly (codes "<!--")) (up_to (exactly (codes "-->"))) (word 60 (codes "!--") refl) (up_to-text (exactly (codes "-->")) (word 45 (codes "->") refl))

comment-text : IsTextShape comment
comment-text = either closed_comment (exactly (codes "<!--") and_then to_the_end) closed_comment-text (behind (exactly (codes "<!--")) to_the_end (word 60 (codes "!--") refl) to_the_end-cuts)

abbrev spaced_comment : Shape ℕ
spaced_comment = closed_comment and_then run_of is_space_or_tab

spaced_comment-text : IsTextShape spaced_comment
spaced_comment-text = behind closed_comment (run_of is_space_or_tab) closed_comment-text (run_of-cuts is_space_or_tab space_or_tab-ascii)

abbrev comments_and_newline : Shape ℕ
comments_and_newline = one_or_more spaced_comment and_then exactly (codes "\n")

comments_and_newline-text : IsTextShape comments_and_newline
comments_and_newline-text =
    behind (one_or_more spaced_comment) (exactly (codes "\n"))
    (record { cuts = one_or_more-cuts spaced_comment spaced_comment-text.cuts; begins = one_or_more-begins spaced_comment spaced_comment-text.cuts spaced_comment-text.begins })
    (word 10 [] refl).cuts

line_of_comments-text : IsTextShape line_of_comments
line_of_comments-text = record {
  cuts = and_then-cuts (run_of is_space_or_tab) comments_and_newline (run_of-cuts is_space_or_tab space_or_tab-ascii) comments_and_newline-text.cuts;
  begins = run_then-begins is_space_or_tab comments_and_newline space_or_tab-ascii comments_and_newline-text.cuts comments_and_newline-text.begins;
}

-- a shape that fits nowhere
nothing-fits : {A : Type 0} (rest : List ℕ) → None ≡ Some rest → A
nothing-fits rest e = cc

never-text : IsTextShape (λ text. None)
never-text = record {
  cuts = record { part = λ text rest e. nothing-fits rest e; keeps = λ text rest u e. nothing-fits rest e };
  begins = record { begins = λ text rest e. nothing-fits rest e };
}

after_newline-text : (before : Option ℕ) (shape : Shape ℕ) → IsTextShape shape → IsTextShape (after_newline before shape)
after_newline-text None shape a = never-text
after_newline-text (Some b) shape a = by_byte (b == 10)
  where
    by_byte : (t : Bool) → IsTextShape (λ text. if t then shape text else None)
    by_byte true = a
    by_byte false = never-text

-- ---- tags and elements

name_end-cuts : CutsText (one_of is_name_end)
name_end-cuts = one_of-cuts is_name_end name_end-ascii

angle : IsTextShape (exactly (codes ">"))
angle = word 62 [] refl

tag_rest-cuts : CutsText tag_rest
tag_rest-cuts =
    or_else-cuts (exactly (codes ">")) (exactly (codes "/>") or_else one_of is_name_end and_then up_to (exactly (codes ">"))) angle.cuts
    (or_else-cuts (exactly (codes "/>")) (one_of is_name_end and_then up_to (exactly (codes ">"))) (word 47 (codes ">") refl).cuts
    (and_then-cuts (one_of is_name_end) (up_to (exactly (codes ">"))) name_end-cuts (up_to-text (exactly (codes ">")) angle)))

module _ (name : List ℕ) (ascii : list_all (λ x. nat_lt x 128) name ≡ true) where
  named-cuts : (after : Shape ℕ) → CutsText after → CutsText (in_any_case name and_then after)
  named-cuts after a = and_then-cuts (in_any_case name) after (in_any_case-cuts name (ascii-by name ascii)) a

  opening_tag-text : IsTextShape (opening_tag name)
  opening_tag-text = behind (exactly (codes "<")) (in_any_case name and_then tag_rest) (word 60 [] refl) (named-cuts tag_rest tag_rest-cuts)

  end_tag-text : IsTextShape (end_tag name)
  end_tag-text = behind (exactly (codes "</")) (in_any_case name and_then tag_rest) (word 60 (codes "/") refl) (named-cuts tag_rest tag_rest-cuts)

  tag_closed_in_itself-text : IsTextShape (tag_closed_in_itself name)
  tag_closed_in_itself-text =
      let closed : List ℕ → Bool = λ part. ends_with (λ a b. a == b) part (codes "/>") in
      record { cuts = such_that-cuts closed (opening_tag name) opening_tag-text.cuts; begins = such_that-begins closed (opening_tag name) opening_tag-text.begins }

  abbrev end_rest : Shape ℕ
  end_rest = exactly (codes ">") or_else one_of is_name_end and_then run_of is_blank_byte and_then exactly (codes ">")

  end_rest-cuts : CutsText end_rest
  end_rest-cuts =
      or_else-cuts (exactly (codes ">")) (one_of is_name_end and_then run_of is_blank_byte and_then exactly (codes ">")) angle.cuts
      (and_then-cuts (one_of is_name_end) (run_of is_blank_byte and_then exactly (codes ">")) name_end-cuts
      (and_then-cuts (run_of is_blank_byte) (exactly (codes ">")) (run_of-cuts is_blank_byte blank-ascii) angle.cuts))

  element_end-text : IsTextShape (element_end name)
  element_end-text = behind (exactly (codes "</")) (in_any_case name and_then end_rest) (word 60 (codes "/") refl) (named-cuts end_rest end_rest-cuts)

  element-text : IsTextShape (element name)
  element-text =
      either (tag_closed_in_itself name) (opening_tag name and_then up_to (element_end name)) tag_closed_in_itself-text
      (behind (opening_tag name) (up_to (element_end name)) opening_tag-text (up_to-text (element_end name) element_end-text))

  open_ended_element-text : IsTextShape (open_ended_element name)
  open_ended_element-text =
      either (tag_closed_in_itself name) (opening_tag name and_then (up_to (element_end name) or_else to_the_end)) tag_closed_in_itself-text
      (behind (opening_tag name) (up_to (element_end name) or_else to_the_end) opening_tag-text
      (or_else-cuts (up_to (element_end name)) to_the_end (up_to-text (element_end name) element_end-text) to_the_end-cuts))

  any_tag-text : IsTextShape (any_tag name)
  any_tag-text = either (opening_tag name) (end_tag name) opening_tag-text end_tag-text

sealed_element-text : IsTextShape sealed_element
sealed_element-text = either (element (codes "nowiki")) (element (codes "pre")) (element-text (codes "nowiki") refl) (element-text (codes "pre") refl)

ignored_element-text : (mode : Mode) → IsTextShape (ignored_element mode)
ignored_element-text View = open_ended_element-text (codes "includeonly") refl
ignored_element-text Include = open_ended_element-text (codes "noinclude") refl

silent_tag-text : (mode : Mode) → IsTextShape (silent_tag mode)
silent_tag-text View = either (any_tag (codes "noinclude")) (any_tag (codes "onlyinclude")) (any_tag-text (codes "noinclude") refl) (any_tag-text (codes "onlyinclude") refl)
silent_tag-text Include = any_tag-text (codes "includeonly") refl

-- ---- atoms

-- a text that is the end of a text of UTF-8
pub record EndsUtf8 (text : List ℕ) : Type 0 where
  pub front : List ℕ
  pub whole : IsUtf8 (front ++ text)

pub EndsUtf8-passed : (b : ℕ) (bs : List ℕ) → EndsUtf8 (b ∷ bs) → EndsUtf8 bs
EndsUtf8-passed b bs h = record { front = h.front ++ b ∷ []; whole = subst IsUtf8 (sym (append_assoc h.front (b ∷ []) bs)) h.whole }

-- UTF-8, and not empty
pub record IsText (source : List ℕ) : Type 0 where
  pub some : 0 < length source
  pub utf8 : IsUtf8 source

-- what covers an atom where a shape fits that cuts between characters
pub shape-covers : (shape : Shape ℕ) → IsTextShape shape → (b : ℕ) (bs rest : List ℕ) → EndsUtf8 (b ∷ bs) → shape (b ∷ bs) ≡ Some rest → IsText (covered b bs rest)
shape-covers shape a b bs rest h e =
    let f = a.begins.begins (b ∷ bs) rest e in
    let u : IsUtf8 (f.0 ∷ (f.1 ++ rest)) = back-at_ascii h.front f.0 (f.1 ++ rest) f.3 (subst (λ t. IsUtf8 (h.front ++ t)) f.2 h.whole) in
    let v : IsUtf8 rest = a.cuts.keeps (b ∷ bs) rest (subst IsUtf8 (sym f.2) u) e in
    let p : covered b bs rest ≡ f.0 ∷ f.1 = part-is b bs (f.0 ∷ f.1) rest f.2 (omega arith) in
    record { some = subst (λ t. 0 < length t) (sym p) (omega arith); utf8 = subst IsUtf8 (sym p) (front-utf8 (f.0 ∷ f.1) rest u v) }

-- what the source of an atom is in a text of UTF-8: all but a single byte are texts themselves
abbrev pub IsTextSource : AtomKind → List ℕ → Type 0
IsTextSource LineComment source = IsText source
IsTextSource Comment source = IsText source
IsTextSource Sealed source = IsText source
IsTextSource Ignored source = IsText source
IsTextSource Tag source = IsText source
IsTextSource Open source = Unit {0}
IsTextSource Close source = Unit {0}
IsTextSource Bar source = Unit {0}
IsTextSource Equals source = Unit {0}
IsTextSource Byte source = Unit {0}

atom_at-text : (mode : Mode) (before : Option ℕ) (b : ℕ) (bs : List ℕ) → EndsUtf8 (b ∷ bs) → IsTextSource (atom_at mode before (b ∷ bs)).0 (covered b bs (atom_at mode before (b ∷ bs)).1)
atom_at-text mode before b bs h =
    first_that_fits-each (λ (found : AtomKind × List ℕ). IsTextSource found.0 (covered b bs found.1)) (atom_shapes mode before) (Byte, bs) (b ∷ bs) tt (
      λ rest e. shape-covers (after_newline before line_of_comments) (after_newline-text before line_of_comments line_of_comments-text) b bs rest h e,
      (
        λ rest e. shape-covers comment comment-text b bs rest h e,
        (
          λ rest e. shape-covers sealed_element sealed_element-text b bs rest h e,
          (
            λ rest e. shape-covers (ignored_element mode) (ignored_element-text mode) b bs rest h e,
            (
              λ rest e. shape-covers (silent_tag mode) (silent_tag-text mode) b bs rest h e,
              (λ _ _. tt, (λ _ _. tt, (λ _ _. tt, (λ _ _. tt, tt)))),
            ),
          ),
        ),
      ),
    )

pub atoms-texts : (mode : Mode) (text : List ℕ) → IsUtf8 text → AllByRecursion (λ (a : Atom). IsTextSource a.kind a.source) (atoms mode text)
unfolding atoms
atoms-texts mode text u = spans-all-of (atom_at mode) EndsUtf8 EndsUtf8-passed IsTextSource (atom_at-text mode) text (record { front = []; whole = u })
