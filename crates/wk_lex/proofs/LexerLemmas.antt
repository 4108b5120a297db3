-- Atoms that are read one after another.
use Rattle.std.proofs.Common.{◌≡◌, ◌≢◌, ℕ, zero, suc, ◌+◌, ◌-◌, ◌<◌, ◌≤◌, ◌==◌, ◌⊎◌, inl, inr, Bool, true, false, not, if◌then◌else◌, List, [], ◌∷◌, ◌++◌, length, get_or, take, drop, Option, None, refl, ap, ap₂, sym, subst, ◌∙◌, arith, append_assoc, length-drop, length-take}
use Rattle.std.proofs.lemmas.Bool.{cases_lt}
use Rattle.std.proofs.lemmas.Bool.Decides.{nat_tests}
use Rattle.std.proofs.lemmas.List.{drop-drop, drop_more, take_more, get_or-drop}
use Rattle.std.specs.Prelude.{slice_index_or}
use Rattle.wk_text_rules.specs.Shapes.{Span}
use Rattle.wk_tree_laws.proofs.AtomLemmas.{IsSourceOf, first_that_fits-each}
use Rattle.wk_tree_laws.proofs.PieceLemmas.{all-back}
use Rattle.wk_tree_rules.specs.Atoms.{after_newline, atom_shapes, atom_at, atoms}
use Rattle.wk_tree_rules.specs.Tags.{line_of_comments}
use Rattle.wk_tree_rules.specs.declared.AtomKind.{AtomKind}
use Rattle.wk_tree_rules.specs.declared.AtomKind.TheVariants.{LineComment, Comment, Sealed, Ignored, Tag, Open, Close, Bar, Equals, Byte}
use Rattle.wk_tree_rules.specs.declared.Mode.{Mode}
use Rattle.wk_lex.specs.Ahead.{atoms_from, byte_atoms, AreSources, IsLongest, IsNextAt, AreBytes, one_mark}
use Rattle.wk_lex.specs.FirstBytes.{ends_line, AreInLine, IsBehindLine, IsInLine, IsNoLineAt}
use Rattle.wk_lex.specs.Places.{EndsAt, byte_before}
use Rattle.wk_lex.specs.Spans.{source_in, span_of, is_mark, IsAtomAt, IsPlain, IsRunByKind}
use Rattle.wk_lex.proofs.AtomSteps.{atom_from, run-by_kind}
use Rattle.wk_lex.proofs.FirstLemmas.{no-line}
use Rattle.wk_lex.proofs.PlainLemmas.{plain-seen}
use Rattle.wk_lex.proofs.SpanSteps.{get-is, spans_at-step}

byte_atoms-append : (at : ℕ) (xs : List ℕ) (b : ℕ) → byte_atoms at (xs ++ b ∷ []) ≡ byte_atoms at xs ++ record { kind = Byte; start = at + length xs; source = b ∷ [] } ∷ []
byte_atoms-append at [] b =
    let same : at ≡ at + 0 = omega arith in
    ap (λ n. record { kind = Byte; start = n; source = b ∷ [] } ∷ []) same
byte_atoms-append at (x ∷ xs) b =
    let same : at + 1 + length xs ≡ at + suc (length xs) = omega arith in
    ap (λ t. record { kind = Byte; start = at; source = x ∷ [] } ∷ t) (byte_atoms-append (at + 1) xs b ∙ ap (λ n. byte_atoms (at + 1) xs ++ record { kind = Byte; start = n; source = b ∷ [] } ∷ []) same)

pub marked_byte : (mark : Bool) → false ≡ not mark → mark ≡ true
marked_byte true e = refl
marked_byte false e = absurd (cc)

-- one more byte is text within a line
line-more : (text : List ℕ) (from end : ℕ) → AreInLine text from end → IsInLine (get_or text end 0) → AreInLine text from (end + 1)
line-more text from end before here = λ i more less. either i more less (cases_lt i end)
  where
    either : (i : ℕ) → from ≤ i → i < end + 1 → (i < end) ⊎ (end ≤ i) → IsInLine (get_or text i 0)
    either i more less (inl earlier) = before i more earlier
    either i more less (inr last) = subst (λ n. IsInLine (get_or text n 0)) (let same : end ≡ i = omega (arith, less, last) in same) here

-- four more bytes are
pub line-four : (text : List ℕ) (from end : ℕ) → AreInLine text from end → IsInLine (get_or text end 0) → IsInLine (get_or text (end + 1) 0) → IsInLine (get_or text (end + 2) 0) → IsInLine (get_or text (end + 3) 0) → AreInLine text from (end + 4)
line-four text from end before first second third fourth =
    let two = subst (AreInLine text from) (let same : end + 1 + 1 ≡ end + 2 = omega arith in same) (line-more text from (end + 1) (line-more text from end before first) second) in
    let three = subst (AreInLine text from) (let same : end + 2 + 1 ≡ end + 3 = omega arith in same) (line-more text from (end + 2) two third) in
    subst (AreInLine text from) (let same : end + 3 + 1 ≡ end + 4 = omega arith in same) (line-more text from (end + 3) three fourth)

plain-newline : IsPlain 10
plain-newline = record {
  angle = λ e. absurd (omega (arith, e));
  open_brace = λ e. absurd (omega (arith, e));
  open_bracket = λ e. absurd (omega (arith, e));
  close_brace = λ e. absurd (omega (arith, e));
  close_bracket = λ e. absurd (omega (arith, e));
  bar = λ e. absurd (omega (arith, e));
  equals = λ e. absurd (omega (arith, e));
}

-- a byte that a test tells from another
pub other-byte : (value : Bool) (byte other : ℕ) → value ≡ (byte == other) → value ≡ false → byte ≢ other
other-byte value byte other is fails = grind (arith, nat_tests)

-- a plain byte at which a line ends is a newline
newline-there : (byte : ℕ) → IsPlain byte → ends_line byte ≡ true → byte ≡ 10
newline-there byte plain ends = grind (arith, nat_tests, plain.angle, plain.open_brace, plain.open_bracket, plain.close_brace, plain.close_bracket, plain.bar, plain.equals)

-- a line that ends at no newline doesn't end at a plain byte
pub some-before : (text : List ℕ) (at end : ℕ) → IsPlain (get_or text at 0) → at ≤ end → ends_line (get_or text end 0) ≡ true → get_or text end 0 ≢ 10 → at < end
some-before text at end plain place ends ne = either (cases_lt at end)
  where
    either : (at < end) ⊎ (end ≤ at) → at < end
    either (inl some) = some
    either (inr none) =
        let same : at ≡ end = omega (arith, place, none) in
        absurd (ne (newline-there (get_or text end 0) (subst (λ n. IsPlain (get_or text n 0)) same plain) ends))

module _ (mode : Mode) (text : List ℕ) where
  pub atom-first : (at : ℕ) (next : AtomKind × ℕ) → IsAtomAt mode text at next → atoms_from mode text at ≡ span_of text (atom_from next.0 at next.1) ∷ atoms_from mode text next.1
  atom-first at next here =
      let left : length (atom_at mode (byte_before at text) (drop at text)).1 ≡ length text - next.1 = ap (λ (p : AtomKind × List ℕ). length p.1) here.fits ∙ length-drop next.1 text in
      let kind : (atom_at mode (byte_before at text) (drop at text)).0 ≡ next.0 = ap (λ (p : AtomKind × List ℕ). p.0) here.fits in
      spans_at-step (atom_at mode) text at next.1 here.within.0 here.within.1 left
      ∙ ap (λ k. record { kind = k; start = at; source = take (next.1 - at) (drop at text) } ∷ atoms_from mode text next.1) kind

  one-source : (at : ℕ) → at < length text → take ((at + 1) - at) (drop at text) ≡ get_or text at 0 ∷ []
  one-source at within =
      let one : (at + 1) - at ≡ 1 = omega arith in
      ap (λ n. take n (drop at text)) one ∙ ap (take 1) (drop_more text at 0 within)

  byte-first : (at : ℕ) → at < length text → IsAtomAt mode text at (Byte, at + 1) → atoms_from mode text at ≡ record { kind = Byte; start = at; source = get_or text at 0 ∷ [] } ∷ atoms_from mode text (at + 1)
  byte-first at within here =
      atom-first at (Byte, at + 1) here
      ∙ ap (λ s. record { kind = Byte; start = at; source = s } ∷ atoms_from mode text (at + 1)) (one-source at within)

  -- a byte
  pub bytes-one : (at : ℕ) → IsAtomAt mode text at (Byte, at + 1) → AreBytes mode text at (at + 1)
  bytes-one at here =
      let within : at < length text = omega (arith, here.within.1) in
      let source = one-source at within in
      record {
        atoms = byte-first at within here ∙ sym (ap (λ s. byte_atoms at s ++ atoms_from mode text (at + 1)) source);
        joined = inl (ap length source);
        within = here.within;
      }

  -- one byte more, where the first is no opening mark
  pub bytes-more : (at end : ℕ) → IsPlain (get_or text at 0) → AreBytes mode text at end → IsAtomAt mode text end (Byte, end + 1) → AreBytes mode text at (end + 1)
  bytes-more at end plain k here =
      let n : ℕ = end - at in
      let within : end < length text = omega (arith, here.within.1) in
      let first : at < length text = omega (arith, k.within.0) in
      let more : (end + 1) - at ≡ n + 1 = omega (arith, k.within.0) in
      let place : at + n ≡ end = omega (arith, k.within.0) in
      let part : List ℕ = take n (drop at text) in
      let b : ℕ = get_or text end 0 in
      let byte : get_or (drop at text) n 0 ≡ b = get_or-drop at text n 0 ∙ ap (λ k. get_or text k 0) place in
      let source : take ((end + 1) - at) (drop at text) ≡ part ++ b ∷ [] =
      ap (λ k. take k (drop at text)) more ∙ take_more (drop at text) n 0 (omega (arith, length-drop at text)) ∙ ap (λ x. part ++ x ∷ []) byte in
      let long : at + length part ≡ end = omega (arith, length-take n (drop at text), length-drop at text) in
      let behind : atoms_from mode text end ≡ record { kind = Byte; start = end; source = b ∷ [] } ∷ atoms_from mode text (end + 1) = byte-first end within here in
      let lead : slice_index_or (take ((end + 1) - at) (drop at text)) 0 0 ≡ get_or text at 0 =
      ap₂ (λ k xs. slice_index_or (take k xs) 0 0) (let s : (end + 1) - at ≡ suc n = omega (arith, k.within.0) in s) (drop_more text at 0 first) in
      record {
        atoms =
            k.atoms
            ∙ ap (λ t. byte_atoms at part ++ t) behind
            ∙ sym (append_assoc (byte_atoms at part) (record { kind = Byte; start = end; source = b ∷ [] } ∷ []) (atoms_from mode text (end + 1)))
            ∙ ap (λ s. (byte_atoms at part ++ record { kind = Byte; start = s; source = b ∷ [] } ∷ []) ++ atoms_from mode text (end + 1)) (sym long)
            ∙ ap (λ t. t ++ atoms_from mode text (end + 1)) (sym (byte_atoms-append at part b))
            ∙ ap (λ s. byte_atoms at s ++ atoms_from mode text (end + 1)) (sym source);
        joined = inr (subst (λ x. x ≢ 123) (sym lead) plain.open_brace, subst (λ x. x ≢ 91) (sym lead) plain.open_bracket);
        within = (omega (arith, k.within.0), here.within.1);
      }

  line-none : (at : ℕ) → 0 < at → at ≤ length text → get_or text (at - 1) 0 ≢ 10 → EndsAt (after_newline (byte_before at text) line_of_comments) text at None
  line-none zero some within ne = absurd (omega arith)
  line-none (suc k) some within ne =
      let same : suc k - 1 ≡ k = omega arith in
      let other : (get_or text k 0 == 10) ≡ false = not-newline k (subst (λ n. get_or text n 0 ≢ 10) same ne) in
      record {
        fits =
            ap (λ o. after_newline o line_of_comments (drop (suc k) text)) (get-is text k (omega arith))
            ∙ ap (λ t. if t then line_of_comments (drop (suc k) text) else None) other;
        within = tt;
      }
    where
      not-newline : (k : ℕ) → get_or text k 0 ≢ 10 → (get_or text k 0 == 10) ≡ false
      not-newline k ne = grind (arith, nat_tests)

  -- a plain byte that isn't the first of a line
  pub byte-inside : (at : ℕ) → 0 < at → at < length text → get_or text (at - 1) 0 ≢ 10 → IsPlain (get_or text at 0) → IsAtomAt mode text at (Byte, at + 1)
  byte-inside at some within ne plain = plain-seen mode text text at refl within (line-none at some (omega arith) ne) plain

  -- a plain byte with which no line of comments begins
  pub byte-anywhere : (at : ℕ) → at < length text → IsPlain (get_or text at 0) → get_or text at 0 ≢ 32 → get_or text at 0 ≢ 9 → IsAtomAt mode text at (Byte, at + 1)
  byte-anywhere at within plain space tab = plain-seen mode text text at refl within (no-line text at within plain.angle space tab) plain

  -- bytes go on over those that are text within a line, where the first of them is an atom
  bytes-by : (at from : ℕ) → IsPlain (get_or text at 0) → AreBytes mode text at from → (n : ℕ) → (0 < n → IsAtomAt mode text from (Byte, from + 1)) → AreInLine text from (from + n) → from + n ≤ length text → AreBytes mode text at (from + n)
  bytes-by at from plain k zero first line within = subst (AreBytes mode text at) (let same : from ≡ from + 0 = omega arith in same) k
  bytes-by at from plain k (suc zero) first line within =
      subst (AreBytes mode text at) (let same : from + 1 ≡ from + suc zero = omega arith in same) (bytes-more at from plain k (first (omega arith)))
  bytes-by at from plain k (suc (suc n)) first line within =
      let before = bytes-by at from plain k (suc n) (λ _. first (omega arith)) (λ i more less. line i more (omega (arith, less))) (omega (arith, within)) in
      let last : (from + suc n) - 1 ≡ from + n = omega arith in
      let inside = subst (λ i. get_or text i 0 ≢ 10) (sym last) (line (from + n) (omega arith) (omega arith)).inside in
      subst (AreBytes mode text at) (let same : from + suc n + 1 ≡ from + suc (suc n) = omega arith in same)
      (bytes-more at (from + suc n) plain before (byte-inside (from + suc n) (omega arith) (omega (arith, within)) inside (line (from + suc n) (omega arith) (omega arith)).plain))

  -- the same up to the place behind them
  bytes-line : (at from end : ℕ) → IsPlain (get_or text at 0) → AreBytes mode text at from → (from < end → IsAtomAt mode text from (Byte, from + 1)) → IsBehindLine text from end → AreBytes mode text at end
  bytes-line at from end plain k first behind =
      let place : from + (end - from) ≡ end = omega (arith, behind.within.0) in
      subst (AreBytes mode text at) place
      (bytes-by at from plain k (end - from) (λ some. first (omega (arith, some))) (λ i more less. behind.line i more (omega (arith, less, behind.within.0))) (omega (arith, behind.within.0, behind.within.1)))

  -- the bytes from a plain one on up to the end of the line, where it doesn't end the line itself
  pub line-first : (at end : ℕ) → IsPlain (get_or text at 0) → IsBehindLine text at end → IsAtomAt mode text at (Byte, at + 1) → at < end → AreBytes mode text at end
  line-first at end plain behind here some =
      bytes-line at (at + 1) end plain (bytes-one at here)
      (λ more. byte-inside (at + 1) (omega arith) (omega (arith, more, behind.within.1)) (subst (λ i. get_or text i 0 ≢ 10) (let same : at ≡ at + 1 - 1 = omega arith in same) (behind.line at (omega arith) some).inside) (behind.line (at + 1) (omega arith) more).plain)
      (record {
        within = (omega (arith, some), behind.within.1);
        line = λ i more less. behind.line i (omega (arith, more)) less;
        longest = behind.longest;
      })

  -- bytes go on over a newline, which may be the first of them
  pub bytes-newline : (at end : ℕ) → IsPlain (get_or text at 0) → IsAtomAt mode text at (Byte, at + 1) → at ≤ end → end < length text → get_or text end 0 ≡ 10 → (at < end → AreBytes mode text at end) → AreBytes mode text at (end + 1)
  bytes-newline at end plain here from within is k = either (cases_lt at end)
    where
      either : (at < end) ⊎ (end ≤ at) → AreBytes mode text at (end + 1)
      either (inl some) =
          bytes-more at end plain (k some)
          (byte-anywhere end within (subst IsPlain (sym is) plain-newline) (λ e. absurd (omega (arith, is, e))) (λ e. absurd (omega (arith, is, e))))
      either (inr none) = subst (λ n. AreBytes mode text at (n + 1)) (let same : at ≡ end = omega (arith, from, none) in same) (bytes-one at here)

  -- bytes go on over a line that begins with neither a space nor a tab
  pub bytes-next_line : (at from end : ℕ) → IsPlain (get_or text at 0) → AreBytes mode text at from → (from < length text → (get_or text from 0 ≢ 32) × (get_or text from 0 ≢ 9)) → IsBehindLine text from end → AreBytes mode text at end
  bytes-next_line at from end plain k blank behind =
      bytes-line at from end plain k
      (λ some. let within : from < length text = omega (arith, some, behind.within.1) in byte-anywhere from within (behind.line from (omega arith) some).plain (blank within).0 (blank within).1)
      behind

  -- ---- the next atom

  pub atoms-all : atoms_from mode text 0 ≡ atoms mode text
  unfolding atoms
  atoms-all = refl

  -- a byte that is an atom is one alone
  byte-alone : (before : Option ℕ) (rest : List ℕ) → (atom_at mode before rest).0 ≡ Byte → atom_at mode before rest ≡ (Byte, drop 1 rest)
  byte-alone before rest =
      first_that_fits-each (λ (found : AtomKind × List ℕ). found.0 ≡ Byte → found ≡ (Byte, drop 1 rest)) (atom_shapes mode before) (Byte, drop 1 rest) rest (λ _. refl)
      (λ _ _ e. absurd (cc), (λ _ _ e. absurd (cc), (λ _ _ e. absurd (cc), (λ _ _ e. absurd (cc), (λ _ _ e. absurd (cc), (λ _ _ e. absurd (cc), (λ _ _ e. absurd (cc), (λ _ _ e. absurd (cc), (λ _ _ e. absurd (cc), tt)))))))))

  pub byte-here : (at : ℕ) (kind : AtomKind) (end : ℕ) → kind ≡ Byte → IsAtomAt mode text at (kind, end) → IsAtomAt mode text at (Byte, at + 1)
  byte-here at kind end is here = record {
    fits = byte-alone (byte_before at text) (drop at text) (ap (λ (p : AtomKind × List ℕ). p.0) here.fits ∙ is) ∙ ap (λ rest. (Byte, rest)) (drop-drop 1 at text);
    within = (omega arith, omega (arith, here.within.0, here.within.1));
  }

  pub next-other : (at : ℕ) (kind : AtomKind) (end : ℕ) → kind ≢ Byte → IsAtomAt mode text at (kind, end) → IsNextAt mode text at (kind, end)
  next-other at kind end other here =
      let first = atom-first at (kind, end) here in
      record {
        within = here.within;
        next = λ all.
            let sources = subst AreSources first all in (
              record {
                within = record { some = omega (arith, here.within.0); bounded = omega (arith, here.within.0, here.within.1) };
                marks = run-by_kind mode text kind (source_in text (atom_from kind at end)) sources.0;
                bytes = λ is. absurd (other is);
                longest = λ is. absurd (other is);
                other = λ _. first;
              },
              sources.1,
            );
      }

  pub next-bytes : (at : ℕ) (kind : AtomKind) (end : ℕ) → kind ≡ Byte → AreBytes mode text at end → IsLongest text at end → IsNextAt mode text at (kind, end)
  next-bytes at kind end is k longest = record {
    within = k.within;
    next = λ all. (
      record {
        within = record { some = omega (arith, k.within.0); bounded = omega (arith, k.within.0, k.within.1) };
        marks = subst (λ x. IsRunByKind x (source_in text (atom_from kind at end))) (sym is) tt;
        bytes = λ _. (k.atoms, k.joined);
        longest = λ _. subst (IsLongest text at) (let same : end ≡ at + (end - at) = omega (arith, k.within.0) in same) longest;
        other = λ ne. absurd (ne is);
      },
      all-back (λ (s : Span AtomKind ℕ). IsSourceOf s.kind s.source) (byte_atoms at (take (end - at) (drop at text))) (atoms_from mode text end) (subst AreSources k.atoms all),
    );
  }

  -- ---- a mark

  byte-end : (at end : ℕ) → IsAtomAt mode text at (Byte, end) → end ≡ at + 1
  byte-end at end here =
      let one = byte-here at Byte end refl here in
      let same : drop end text ≡ drop (at + 1) text = ap (λ (p : AtomKind × List ℕ). p.1) (sym here.fits ∙ one.fits) in
      omega (arith, here.within.0, here.within.1, one.within.1, ap length same, length-drop end text, length-drop (at + 1) text)

  -- an atom that begins with a mark, which is one byte alone where it is a byte
  pub next-mark : (at : ℕ) (kind : AtomKind) (end : ℕ) → is_mark (get_or text at 0) ≡ true → IsAtomAt mode text at (kind, end) → IsNextAt mode text at (kind, end)
  next-mark at LineComment end mark here = next-other at LineComment end (λ e. absurd (cc)) here
  next-mark at Comment end mark here = next-other at Comment end (λ e. absurd (cc)) here
  next-mark at Sealed end mark here = next-other at Sealed end (λ e. absurd (cc)) here
  next-mark at Ignored end mark here = next-other at Ignored end (λ e. absurd (cc)) here
  next-mark at Tag end mark here = next-other at Tag end (λ e. absurd (cc)) here
  next-mark at Open end mark here = next-other at Open end (λ e. absurd (cc)) here
  next-mark at Close end mark here = next-other at Close end (λ e. absurd (cc)) here
  next-mark at Bar end mark here = next-other at Bar end (λ e. absurd (cc)) here
  next-mark at Equals end mark here = next-other at Equals end (λ e. absurd (cc)) here
  next-mark at Byte end mark here =
      let one = byte-end at end here in
      subst (λ n. IsNextAt mode text at (Byte, n)) (sym one) (next-bytes at Byte (at + 1) refl (bytes-one at (byte-here at Byte end refl here)) (one_mark mark refl))

  -- the same of a mark with which no line of comments begins
  pub mark-next : (b at : ℕ) (found : AtomKind × ℕ) → b ≢ 60 → b ≢ 32 → b ≢ 9 → is_mark b ≡ true → at < length text → get_or text at 0 ≡ b → (IsNoLineAt text at → IsAtomAt mode text at found) → IsNextAt mode text at found
  mark-next b at found angle space tab mark within is f =
      next-mark at found.0 found.1 (ap is_mark is ∙ mark) (f (no-line text at within (λ e. angle (sym is ∙ e)) (λ e. space (sym is ∙ e)) (λ e. tab (sym is ∙ e))))

  -- a space or a tab that isn't the first byte of a line
  pub blank-inside : (b at : ℕ) → IsPlain b → 0 < at → at < length text → get_or text (at - 1) 0 ≢ 10 → get_or text at 0 ≡ b → IsAtomAt mode text at (Byte, at + 1)
  blank-inside b at plain some within ne is = byte-inside at some within ne (subst IsPlain (sym is) plain)

plain-space : IsPlain 32
plain-space = record {
  angle = λ e. absurd (omega (arith, e));
  open_brace = λ e. absurd (omega (arith, e));
  open_bracket = λ e. absurd (omega (arith, e));
  close_brace = λ e. absurd (omega (arith, e));
  close_bracket = λ e. absurd (omega (arith, e));
  bar = λ e. absurd (omega (arith, e));
  equals = λ e. absurd (omega (arith, e));
}

plain-tab : IsPlain 9
plain-tab = record {
  angle = λ e. absurd (omega (arith, e));
  open_brace = λ e. absurd (omega (arith, e));
  open_bracket = λ e. absurd (omega (arith, e));
  close_brace = λ e. absurd (omega (arith, e));
  close_bracket = λ e. absurd (omega (arith, e));
  bar = λ e. absurd (omega (arith, e));
  equals = λ e. absurd (omega (arith, e));
}

pub space-inside : (mode : Mode) (text : List ℕ) (at : ℕ) → 0 < at → at < length text → get_or text (at - 1) 0 ≢ 10 → get_or text at 0 ≡ 32 → IsAtomAt mode text at (Byte, at + 1)
space-inside mode text at some within ne is = blank-inside mode text 32 at plain-space some within ne is

pub tab-inside : (mode : Mode) (text : List ℕ) (at : ℕ) → 0 < at → at < length text → get_or text (at - 1) 0 ≢ 10 → get_or text at 0 ≡ 9 → IsAtomAt mode text at (Byte, at + 1)
tab-inside mode text at some within ne is = blank-inside mode text 9 at plain-tab some within ne is
