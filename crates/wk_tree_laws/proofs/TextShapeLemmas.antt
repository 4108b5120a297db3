-- Shapes that cut a text of UTF-8 between its characters.
use Rattle.std.proofs.Common.{◌≡◌, ℕ, zero, suc, ◌+◌, ◌<◌, ◌&&◌, Bool, true, false, if◌then◌else◌, List, [], ◌∷◌, ◌++◌, length, take, drop, Option, Some, None, option_map, option_and_then, refl, ap, sym, subst, ◌∙◌, ⊎_elim, arith, append_assoc, append-nil, take-append-drop, IsUtf8, eqb-true, one-add}
use Rattle.std.proofs.lemmas.Str.Ascii.{lowercase_ascii, lowercase_is}
use Rattle.std.proofs.lemmas.Str.{IsUtf8-nil}
use Rattle.std.specs.Char.{eq_ignore_ascii_case, to_ascii_lowercase}
use Rattle.std.specs.List.{AllByRecursion, prefix_len, starts_with}
use Rattle.wk_text_rules.specs.Shapes.{Shape, exactly, in_any_case, one_of, run_of, ◌and_then◌, ◌or_else◌, to_the_end, split_at_nearest, up_to, part_before, such_that, repeated, one_or_more}
use Rattle.wk_tree_laws.proofs.CutLemmas.{IsAsciiByte, ascii-utf8, front-before_ascii, back-at_ascii, behind_ascii, back-utf8}
use Rattle.wk_tree_laws.proofs.ShapeLemmas.{chosen, exactly-fits, and_then-fits, or_else-fits}
use lib.Pointwise.{pointwise}

-- what follows is a rest of the text, and of UTF-8 where the text is
pub record CutsText (shape : Shape ℕ) : Type 0 where
  pub part : (text rest : List ℕ) → shape text ≡ Some rest → (front : List ℕ) × (text ≡ front ++ rest)
  pub keeps : (text rest : List ℕ) → IsUtf8 text → shape text ≡ Some rest → IsUtf8 rest

-- the part begins with a byte of ASCII
pub record BeginsAscii (shape : Shape ℕ) : Type 0 where
  pub begins : (text rest : List ℕ) → shape text ≡ Some rest → (b : ℕ) × (front : List ℕ) × (text ≡ b ∷ (front ++ rest)) × (b < 128)

-- ---- words

pub exactly-cuts : (word : List ℕ) → AllByRecursion IsAsciiByte word → CutsText (exactly word)
exactly-cuts word ascii = record {
  part = λ text rest e. (word, exactly-fits word text rest e);
  keeps = λ text rest u e. back-utf8 word rest (subst IsUtf8 (exactly-fits word text rest e) u) (ascii-utf8 word ascii);
}

pub exactly-begins : (b : ℕ) (word : List ℕ) → b < 128 → BeginsAscii (exactly (b ∷ word))
exactly-begins b word low = record { begins = λ text rest e. (b, word, exactly-fits (b ∷ word) text rest e, low) }

low-by : (x y b : ℕ) → x ≡ y → x < 128 → (90 < b → y ≡ b) → b < 128
low-by x y b e low kept = grind arith

-- a byte that is a letter of ASCII but for its case is of ASCII
same_but_case-ascii : (a b : ℕ) → a < 128 → eq_ignore_ascii_case a b ≡ true → b < 128
same_but_case-ascii a b low e =
    low-by (to_ascii_lowercase a) (to_ascii_lowercase b) b (eqb-true (to_ascii_lowercase a) (to_ascii_lowercase b) e) (lowercase_ascii a low) (lowercase_is b).2

pub both : (s t : Bool) → (s && t) ≡ true → (s ≡ true) × (t ≡ true)
both true true e = (refl, refl)
both true false e = cc
both false t e = cc

word-ascii : (word part : List ℕ) → AllByRecursion IsAsciiByte word → pointwise eq_ignore_ascii_case word part ≡ true → AllByRecursion IsAsciiByte part
word-ascii [] [] ascii e = tt
word-ascii [] (b ∷ part) ascii e = cc
word-ascii (w ∷ word) [] ascii e = tt
word-ascii (w ∷ word) (b ∷ part) ascii e =
    let parts = both (eq_ignore_ascii_case w b) (pointwise eq_ignore_ascii_case word part) e in
    (same_but_case-ascii w b ascii.0 parts.0, word-ascii word part ascii.1 parts.1)

in_any_case-fits : (word text rest : List ℕ) → AllByRecursion IsAsciiByte word → in_any_case word text ≡ Some rest → (part : List ℕ) × (text ≡ part ++ rest) × AllByRecursion IsAsciiByte part
in_any_case-fits word text rest ascii e =
    let c = chosen (starts_with eq_ignore_ascii_case text word) (drop (length word) text) rest e in (
      take (length word) text,
      sym (take-append-drop (length word) text) ∙ ap (λ t. take (length word) text ++ t) c.1,
      word-ascii word (take (length word) text) ascii c.0,
    )

pub in_any_case-cuts : (word : List ℕ) → AllByRecursion IsAsciiByte word → CutsText (in_any_case word)
in_any_case-cuts word ascii = record {
  part = λ text rest e. let f = in_any_case-fits word text rest ascii e in (f.0, f.1);
  keeps = λ text rest u e. let f = in_any_case-fits word text rest ascii e in back-utf8 f.0 rest (subst IsUtf8 f.1 u) (ascii-utf8 f.0 f.2);
}

-- ---- bytes that pass a test that only bytes of ASCII pass

abbrev pub IsAsciiTest : (ℕ → Bool) → Type 0
IsAsciiTest test = (b : ℕ) → test b ≡ true → b < 128

one_of-fits : (test : ℕ → Bool) (text rest : List ℕ) → one_of test text ≡ Some rest → (b : ℕ) × (text ≡ b ∷ rest) × (test b ≡ true)
one_of-fits test [] rest e = cc
one_of-fits test (b ∷ text) rest e = let c = chosen (test b) text rest e in (b, ap (λ t. b ∷ t) c.1, c.0)

pub one_of-cuts : (test : ℕ → Bool) → IsAsciiTest test → CutsText (one_of test)
one_of-cuts test ascii = record {
  part = λ text rest e. let f = one_of-fits test text rest e in (f.0 ∷ [], f.1);
  keeps = λ text rest u e. let f = one_of-fits test text rest e in behind_ascii f.0 rest (ascii f.0 f.2) (subst IsUtf8 f.1 u);
}

pub run-utf8 : (test : ℕ → Bool) → IsAsciiTest test → (text : List ℕ) → IsUtf8 text → IsUtf8 (drop (prefix_len test text) text)
run-utf8 test ascii [] u = u
run-utf8 test ascii (b ∷ text) u =
    (elim (test b) as (λ t. test b ≡ t → IsUtf8 (drop (if t then 1 + prefix_len test text else 0) (b ∷ text))) [
      | true ↦ λ e. rw one-add (run-utf8 test ascii text (behind_ascii b text (ascii b e) u))
      | false ↦ λ e. u
    ]) refl

some-same : {X : Type 0} (x y : X) → Some x ≡ Some y → x ≡ y
some-same x y e = cc

pub run_of-cuts : (test : ℕ → Bool) → IsAsciiTest test → CutsText (run_of test)
run_of-cuts test ascii = record {
  part = λ text rest e. (take (prefix_len test text) text, sym (take-append-drop (prefix_len test text) text) ∙ ap (λ t. take (prefix_len test text) text ++ t) (some-same (drop (prefix_len test text) text) rest e));
  keeps = λ text rest u e. subst IsUtf8 (some-same (drop (prefix_len test text) text) rest e) (run-utf8 test ascii text u);
}

-- ---- shapes one behind the other, and one in place of the other

parts-joined : (text mid rest x y : List ℕ) → text ≡ x ++ mid → mid ≡ y ++ rest → text ≡ (x ++ y) ++ rest
parts-joined text mid rest x y p q = p ∙ ap (λ t. x ++ t) q ∙ sym (append_assoc x y rest)

pub and_then-cuts : (f g : Shape ℕ) → CutsText f → CutsText g → CutsText (f and_then g)
and_then-cuts f g a b = record {
  part = λ text rest e.
      let both_fit = and_then-fits f g text rest e in
      let first = a.part text both_fit.0 both_fit.1 in
      let second = b.part both_fit.0 rest both_fit.2 in
      (first.0 ++ second.0, parts-joined text both_fit.0 rest first.0 second.0 first.1 second.1);
  keeps = λ text rest u e.
      let both_fit = and_then-fits f g text rest e in
      b.keeps both_fit.0 rest (a.keeps text both_fit.0 u both_fit.1) both_fit.2;
}

pub and_then-begins : (f g : Shape ℕ) → BeginsAscii f → CutsText g → BeginsAscii (f and_then g)
and_then-begins f g a b = record {
  begins = λ text rest e.
      let both_fit = and_then-fits f g text rest e in
      let first = a.begins text both_fit.0 both_fit.1 in
      let second = b.part both_fit.0 rest both_fit.2 in
      (first.0, first.1 ++ second.0, parts-joined text both_fit.0 rest (first.0 ∷ first.1) second.0 first.2 second.1, first.3);
}

pub or_else-cuts : (f g : Shape ℕ) → CutsText f → CutsText g → CutsText (f or_else g)
or_else-cuts f g a b = record {
  part = λ text rest e. ⊎_elim (a.part text rest) (b.part text rest) (or_else-fits f g text rest e);
  keeps = λ text rest u e. ⊎_elim (a.keeps text rest u) (b.keeps text rest u) (or_else-fits f g text rest e);
}

pub or_else-begins : (f g : Shape ℕ) → BeginsAscii f → BeginsAscii g → BeginsAscii (f or_else g)
or_else-begins f g a b = record {
  begins = λ text rest e. ⊎_elim (a.begins text rest) (b.begins text rest) (or_else-fits f g text rest e);
}

pub to_the_end-cuts : CutsText to_the_end
to_the_end-cuts = record {
  part = λ text rest e. (text, sym (append-nil text) ∙ ap (λ t. text ++ t) (some-same [] rest e));
  keeps = λ text rest u e. subst IsUtf8 (some-same [] rest e) IsUtf8-nil;
}

-- ---- the nearest place at which a shape fits

abbrev Pair : Type 0
Pair = List ℕ × List ℕ

abbrev at_once : List ℕ → Pair
at_once rest = ([], rest)

abbrev further : ℕ → Pair → Pair
further b found = (b ∷ found.0, found.1)

-- the place at which a shape fits
pub record FitsAt (shape : Shape ℕ) (text before rest : List ℕ) : Type 0 where
  pub found : List ℕ
  pub whole : text ≡ before ++ found
  pub fits : shape found ≡ Some rest

mapped : (f : Pair → Pair) (o : Option Pair) (p : Pair) → option_map f o ≡ Some p → (q : Pair) × (o ≡ Some q) × (f q ≡ p)
mapped f None p e = cc
mapped f (Some q) p e = (q, refl, some-same (f q) p e)

fits-here : (shape : Shape ℕ) (text : List ℕ) (x : List ℕ) (p : Pair) → shape text ≡ Some x → at_once x ≡ p → FitsAt shape text p.0 p.1
fits-here shape text x p s e = record { found = text; whole = ap (λ (q : Pair). q.0 ++ text) e; fits = s ∙ ap (λ (q : Pair). Some q.1) e }

fits-at_end : (shape : Shape ℕ) (o : Option (List ℕ)) (p : Pair) → shape [] ≡ o → option_map at_once o ≡ Some p → FitsAt shape [] p.0 p.1
fits-at_end shape None p s e = cc
fits-at_end shape (Some x) p s e = fits-here shape [] x p s (some-same (at_once x) p e)

fits-further : (shape : Shape ℕ) (b : ℕ) (text : List ℕ) (q p : Pair) → FitsAt shape text q.0 q.1 → further b q ≡ p → FitsAt shape (b ∷ text) p.0 p.1
fits-further shape b text q p h e = record {
  found = h.found;
  whole = ap (λ t. b ∷ t) h.whole ∙ ap (λ (r : Pair). r.0 ++ h.found) e;
  fits = h.fits ∙ ap (λ (r : Pair). Some r.1) e;
}

fits-by : (shape : Shape ℕ) (b : ℕ) (text : List ℕ) (o : Option (List ℕ)) (p : Pair) → ((q : Pair) → split_at_nearest shape text ≡ Some q → FitsAt shape text q.0 q.1)
    → shape (b ∷ text) ≡ o → (elim o [ Some rest ↦ Some (at_once rest) | None ↦ option_map (further b) (split_at_nearest shape text) ]) ≡ Some p → FitsAt shape (b ∷ text) p.0 p.1
fits-by shape b text None p later s e =
    let m = mapped (further b) (split_at_nearest shape text) p e in
    fits-further shape b text m.0 p (later m.0 m.1) m.2
fits-by shape b text (Some x) p later s e = fits-here shape (b ∷ text) x p s (some-same (at_once x) p e)

pub split_at_nearest-fits : (shape : Shape ℕ) (text : List ℕ) (p : List ℕ × List ℕ) → split_at_nearest shape text ≡ Some p → FitsAt shape text p.0 p.1
unfolding split_at_nearest
split_at_nearest-fits shape [] p e = fits-at_end shape (shape []) p refl e
split_at_nearest-fits shape (b ∷ text) p e = fits-by shape b text (shape (b ∷ text)) p (split_at_nearest-fits shape text) refl e

-- where a shape that begins with ASCII fits within a text of UTF-8, the text may be cut before it and behind it
pub FitsAt-utf8 : (shape : Shape ℕ) (text before rest : List ℕ) → CutsText shape → BeginsAscii shape → IsUtf8 text → FitsAt shape text before rest → IsUtf8 before × IsUtf8 rest
FitsAt-utf8 shape text before rest cuts begins u h =
    let b = begins.begins h.found rest h.fits in
    let whole : text ≡ before ++ b.0 ∷ (b.1 ++ rest) = h.whole ∙ ap (λ t. before ++ t) b.2 in
    let v : IsUtf8 (before ++ b.0 ∷ (b.1 ++ rest)) = subst IsUtf8 whole u in (
      front-before_ascii before b.0 (b.1 ++ rest) b.3 v,
      cuts.keeps h.found rest (subst IsUtf8 (sym b.2) (back-at_ascii before b.0 (b.1 ++ rest) b.3 v)) h.fits,
    )

up_to-found : (shape : Shape ℕ) (text rest : List ℕ) → up_to shape text ≡ Some rest → (before : List ℕ) × FitsAt shape text before rest
up_to-found shape text rest e =
    by_split (split_at_nearest shape text) refl e
  where
    by_split : (o : Option Pair) → split_at_nearest shape text ≡ o → option_map (λ (p : Pair). p.1) o ≡ Some rest → (before : List ℕ) × FitsAt shape text before rest
    by_split None s h = cc
    by_split (Some p) s h = (p.0, subst (λ r. FitsAt shape text p.0 r) (some-same p.1 rest h) (split_at_nearest-fits shape text p s))

pub up_to-cuts : (shape : Shape ℕ) → CutsText shape → BeginsAscii shape → CutsText (up_to shape)
up_to-cuts shape cuts begins = record {
  part = λ text rest e.
      let f = up_to-found shape text rest e in
      let p = cuts.part f.1.found rest f.1.fits in
      (f.0 ++ p.0, parts-joined text f.1.found rest f.0 p.0 f.1.whole p.1);
  keeps = λ text rest u e.
      let f = up_to-found shape text rest e in
      (FitsAt-utf8 shape text f.0 rest cuts begins u f.1).1;
}

-- ---- a test besides, and a shape several times

such_that-fits : (test : List ℕ → Bool) (shape : Shape ℕ) (text rest : List ℕ) → such_that test shape text ≡ Some rest → shape text ≡ Some rest
such_that-fits test shape text rest e = by_fit (shape text) refl e
  where
    by_fit : (o : Option (List ℕ)) → shape text ≡ o → option_and_then (λ r. if test (part_before text r) then Some r else None) o ≡ Some rest → shape text ≡ Some rest
    by_fit None s h = cc
    by_fit (Some x) s h = s ∙ ap Some (chosen (test (part_before text x)) x rest h).1

pub such_that-cuts : (test : List ℕ → Bool) (shape : Shape ℕ) → CutsText shape → CutsText (such_that test shape)
such_that-cuts test shape cuts = record {
  part = λ text rest e. cuts.part text rest (such_that-fits test shape text rest e);
  keeps = λ text rest u e. cuts.keeps text rest u (such_that-fits test shape text rest e);
}

pub such_that-begins : (test : List ℕ → Bool) (shape : Shape ℕ) → BeginsAscii shape → BeginsAscii (such_that test shape)
such_that-begins test shape begins = record { begins = λ text rest e. begins.begins text rest (such_that-fits test shape text rest e) }

module _ (shape : Shape ℕ) (cuts : CutsText shape) where
  repeated-part : (n : ℕ) (text rest : List ℕ) → repeated n shape text ≡ Some rest → (front : List ℕ) × (text ≡ front ++ rest)
  unfolding repeated
  repeated-part zero text rest e = ([], some-same text rest e)
  repeated-part (suc n) text rest e = by_fit (shape text) refl (repeated-part n) e
    where
      by_fit : (o : Option (List ℕ)) → shape text ≡ o → ((t r : List ℕ) → repeated n shape t ≡ Some r → (front : List ℕ) × (t ≡ front ++ r)) → (elim o [ Some r ↦ repeated n shape r | None ↦ Some text ]) ≡ Some rest → (front : List ℕ) × (text ≡ front ++ rest)
      by_fit None s later h = ([], some-same text rest h)
      by_fit (Some x) s later h =
          let first = cuts.part text x s in
          let second = later x rest h in
          (first.0 ++ second.0, parts-joined text x rest first.0 second.0 first.1 second.1)

  repeated-keeps : (n : ℕ) (text rest : List ℕ) → IsUtf8 text → repeated n shape text ≡ Some rest → IsUtf8 rest
  unfolding repeated
  repeated-keeps zero text rest u e = subst IsUtf8 (some-same text rest e) u
  repeated-keeps (suc n) text rest u e = by_fit (shape text) refl (repeated-keeps n) e
    where
      by_fit : (o : Option (List ℕ)) → shape text ≡ o → ((t r : List ℕ) → IsUtf8 t → repeated n shape t ≡ Some r → IsUtf8 r) → (elim o [ Some r ↦ repeated n shape r | None ↦ Some text ]) ≡ Some rest → IsUtf8 rest
      by_fit None s later h = subst IsUtf8 (some-same text rest h) u
      by_fit (Some x) s later h = later x rest (cuts.keeps text x u s) h

  one_or_more-fits : (text rest : List ℕ) → one_or_more shape text ≡ Some rest → (mid : List ℕ) × (shape text ≡ Some mid) × (repeated (length mid) shape mid ≡ Some rest)
  one_or_more-fits text rest e = by_fit (shape text) refl e
    where
      by_fit : (o : Option (List ℕ)) → shape text ≡ o → option_and_then (λ r. repeated (length r) shape r) o ≡ Some rest → (mid : List ℕ) × (shape text ≡ Some mid) × (repeated (length mid) shape mid ≡ Some rest)
      by_fit None s h = cc
      by_fit (Some x) s h = (x, s, h)

  pub one_or_more-cuts : CutsText (one_or_more shape)
  one_or_more-cuts = record {
    part = λ text rest e.
        let f = one_or_more-fits text rest e in
        let first = cuts.part text f.0 f.1 in
        let second = repeated-part (length f.0) f.0 rest f.2 in
        (first.0 ++ second.0, parts-joined text f.0 rest first.0 second.0 first.1 second.1);
    keeps = λ text rest u e.
        let f = one_or_more-fits text rest e in
        repeated-keeps (length f.0) f.0 rest (cuts.keeps text f.0 u f.1) f.2;
  }

  pub one_or_more-begins : BeginsAscii shape → BeginsAscii (one_or_more shape)
  one_or_more-begins begins = record {
    begins = λ text rest e.
        let f = one_or_more-fits text rest e in
        let first = begins.begins text f.0 f.1 in
        let second = repeated-part (length f.0) f.0 rest f.2 in
        (first.0, first.1 ++ second.0, parts-joined text f.0 rest (first.0 ∷ first.1) second.0 first.2 second.1, first.3);
  }

-- ---- a run that may be empty, and then a shape

run-begins : (test : ℕ → Bool) (g : Shape ℕ) → IsAsciiTest test → CutsText g → BeginsAscii g → (text rest : List ℕ) → g (drop (prefix_len test text) text) ≡ Some rest → (b : ℕ) × (front : List ℕ) × (text ≡ b ∷ (front ++ rest)) × (b < 128)
run-begins test g ascii cuts begins [] rest e = begins.begins [] rest e
run-begins test g ascii cuts begins (b ∷ text) rest e = by_test (test b) refl e
  where
    by_test : (t : Bool) → test b ≡ t → g (drop (if t then 1 + prefix_len test text else 0) (b ∷ text)) ≡ Some rest → (c : ℕ) × (front : List ℕ) × (b ∷ text ≡ c ∷ (front ++ rest)) × (c < 128)
    by_test false s h = begins.begins (b ∷ text) rest h
    by_test true s h =
        let k : ℕ = prefix_len test text in
        let fit : g (drop k text) ≡ Some rest = subst (λ n. g (drop n (b ∷ text)) ≡ Some rest) (one-add k) h in
        let second = cuts.part (drop k text) rest fit in
        (b, take k text ++ second.0, ap (λ t. b ∷ t) (parts-joined text (drop k text) rest (take k text) second.0 (sym (take-append-drop k text)) second.1), ascii b s)

pub run_then-begins : (test : ℕ → Bool) (g : Shape ℕ) → IsAsciiTest test → CutsText g → BeginsAscii g → BeginsAscii (run_of test and_then g)
run_then-begins test g ascii cuts begins = record { begins = λ text rest e. run-begins test g ascii cuts begins text rest e }
