-- The next atom behind all that was seen.
use Rattle.std.proofs.Common.{◌≡◌, ℕ, zero, suc, ◌+◌, ◌-◌, ◌<◌, ◌≤◌, ◌==◌, ◌≢◌, ◌⊎◌, inl, inr, Bool, true, false, if◌then◌else◌, List, [], ◌∷◌, ◌++◌, length, map, replicate, take, drop, refl, ap, ap₂, sym, subst, ◌∙◌, arith, append-nil, length-append, length-drop}
use Rattle.std.proofs.lemmas.Bool.Decides.{nat_tests}
use Rattle.std.proofs.lemmas.List.{length-take, drop_more, map-append}
use Rattle.std.specs.Prelude.{slice_index_or}
use Rattle.wk_lex.specs.Ahead.{byte_atoms, IsOneText, IsNextAtom}
use Rattle.wk_tree.specs.Layout.{laid}
use Rattle.wk_tree.proofs.AlikeLemmas.{SeenAlike, nothing-alike, passed-alike, passed-all, bytes-alike, seen-laid}
use Rattle.wk_lex.specs.Spans.{source_in, span_of, IsWithin, IsRunWhereMarks, IsRunOfEither}
use Rattle.wk_lex.specs.declared.atom.Atom.{Atom}
use Rattle.wk_tree.proofs.LayoutLemmas.{plain-laid}
use Rattle.wk_tree.proofs.MatchingLemmas.{plained-all}
use Rattle.wk_tree.proofs.MeetingLemmas.{item-kept}
use Rattle.wk_tree.specs.Matching.{delimiters_by, as_run, is_bracket, brackets_at, plained, tokens_by, IsKept, Keeps}
use Rattle.wk_tree.specs.Tokens.{opens, fills, item_tokens, items_tokens}
use Rattle.wk_tree.specs.declared.matching.Matching.{Matching}
use Rattle.wk_tree.specs.declared.matching.Opener.{Opener as KeptOpener}
use Rattle.wk_tree.specs.declared.matching.Run.{Run as OpenRun}
use Rattle.wk_tree.specs.declared.token.Token.{Token}
use Rattle.wk_tree.specs.declared.token.Token.TheVariants as token
use Rattle.wk_tree_laws.specs.OnePass.{PassState, added, opened, closed, passed, nothing_seen, pieces_seen}
use Rattle.wk_tree_rules.specs.Reduction.{Run, entry, opening, closing, delimiters_of, run_of_atom, piece_by, piece_of}
use Rattle.wk_tree_rules.specs.Tree.{item_of}
use Rattle.wk_tree_rules.specs.Trees.{plain, sealed, nothing, Entry, item, bar, equals, height}
use Rattle.wk_tree_rules.specs.declared.AtomKind.{AtomKind}
use Rattle.wk_tree_rules.specs.Atoms.{Atom as Atom_at}
use Rattle.wk_tree_rules.specs.declared.AtomKind.TheVariants.{LineComment, Comment, Sealed, Ignored, Tag, Open, Close, Bar, Equals, Byte}

pub passed-entry : (seen : PassState) (e : Entry) → passed seen (entry e ∷ []) ≡ added (e ∷ []) seen
unfolding passed
passed-entry seen e = refl

pub passed-opening : (seen : PassState) (run : Run) → passed seen (opening run ∷ []) ≡ opened run seen
unfolding passed
passed-opening seen run = refl

pub passed-closing : (seen : PassState) (run : Run) → passed seen (closing run ∷ []) ≡ closed run.count run seen
unfolding passed
passed-closing seen run = refl

-- ---- an atom's source

pub source-length : (text : List ℕ) (atom : Atom) → IsWithin (length text) atom → length (source_in text atom) ≡ atom.len
source-length text atom w = omega (arith, length-take atom.len (drop atom.start text), length-drop atom.start text, w.some, w.bounded)

delimiters-first : (b n : ℕ) (more : List ℕ) → 0 < n → delimiters_of (take n (b ∷ more)) ≡ delimiters_by (is_bracket b)
delimiters-first b zero more h = absurd (omega arith)
delimiters-first b (suc n) more h = by_test (b == 123) (b == 125)
  where
    by_test : (s t : _) → (if s then delimiters_by false else if t then delimiters_by false else delimiters_by true) ≡ delimiters_by (if s then false else if t then false else true)
    by_test true t = refl
    by_test false true = refl
    by_test false false = refl

pub delimiters-at : (text : List ℕ) (atom : Atom) → IsWithin (length text) atom → delimiters_of (source_in text atom) ≡ delimiters_by (brackets_at text atom.start)
delimiters-at text atom w =
    let within : atom.start < length text = omega (arith, w.some, w.bounded) in
    ap (λ t. delimiters_of (take atom.len t)) (drop_more text atom.start 0 within) ∙ delimiters-first (slice_index_or text atom.start 0) atom.len (drop (atom.start + 1) text) w.some

-- the run that an atom is, as the code has it
abbrev pub run_in : List ℕ → Atom → OpenRun
run_in text atom = record { brackets = brackets_at text atom.start; count = atom.len; end = atom.start + atom.len }

pub run-is : (text : List ℕ) (atom : Atom) → IsWithin (length text) atom → run_of_atom (span_of text atom) ≡ as_run (run_in text atom)
run-is text atom w =
    let at : atom.start ≡ (atom.start + atom.len) - atom.len = omega arith in
    ap₂ (λ m (n : ℕ × ℕ). record { delimiters = m; start = n.0; count = n.1 }) (delimiters-at text atom w) (ap₂ (λ s k. (s, k)) at (source-length text atom w))

either-long : (a b : ℕ) (source : List ℕ) → IsRunOfEither a b source → 2 ≤ length source
either-long a b source (inl r) = r.long
either-long a b source (inr r) = r.long

-- text that comes as one has one token
fills-none : (source : List ℕ) → IsOneText source → fills source ≡ []
fills-none [] one = refl
fills-none (b ∷ source) (inl e) =
    let none : length source ≡ 0 = omega arith in
    by_test (opens b) ∙ ap (λ n. replicate n token.Fill) none
  where
    by_test : (t : Bool) → (if t then replicate (length source) token.Fill else []) ≡ replicate (length source) token.Fill
    by_test true = refl
    by_test false = ap (λ n. replicate n token.Fill) (let none : 0 ≡ length source = omega arith in none)
fills-none (b ∷ source) (inr ne) = ap (λ t. if t then replicate (length source) token.Fill else []) (no-opening b ne.0 ne.1)
  where
    no-opening : (b : ℕ) → b ≢ 123 → b ≢ 91 → opens b ≡ false
    no-opening b x y = grind (arith, nat_tests)

-- ---- the steps

module _ (text : List ℕ) (atom : Atom) (seen : PassState) (within : IsWithin (length text) atom) where
  abbrev next : PassState
  next = passed seen (piece_of (span_of text atom) ∷ [])

  pub step-open : {tokens : List Token} {places : List ℕ} {openers : List KeptOpener} → atom.kind ≡ Open → IsRunWhereMarks text atom
      → (2 ≤ atom.len → atom.len ≤ atom.start + atom.len → Keeps (opened (as_run (run_in text atom)) seen) tokens places openers) → Keeps next tokens places openers
  step-open {tokens = tokens} {places = places} {openers = openers} is delimiters h =
      let long : 2 ≤ length (source_in text atom) = either-long 123 91 (source_in text atom) (subst (λ k. IsRunWhereMarks text (record atom { kind = k })) is delimiters) in
      let same : opened (as_run (run_in text atom)) seen ≡ next =
      ap (λ r. opened r seen) (sym (run-is text atom within)) ∙ sym (passed-opening seen (run_of_atom (span_of text atom))) ∙ ap (λ k. passed seen (piece_by k (span_of text atom) ∷ [])) (sym is) in
      subst (λ s. Keeps s tokens places openers) same (h (omega (arith, source-length text atom within, long)) (omega arith))

  pub step-close : {tokens : List Token} {places : List ℕ} {openers : List KeptOpener} → atom.kind ≡ Close → IsRunWhereMarks text atom
      → (2 ≤ atom.len → atom.len ≤ atom.start + atom.len → Keeps (closed atom.len (as_run (run_in text atom)) seen) tokens places openers) → Keeps next tokens places openers
  step-close {tokens = tokens} {places = places} {openers = openers} is delimiters h =
      let long : 2 ≤ length (source_in text atom) = either-long 125 93 (source_in text atom) (subst (λ k. IsRunWhereMarks text (record atom { kind = k })) is delimiters) in
      let same : closed atom.len (as_run (run_in text atom)) seen ≡ next =
      ap (λ (r : Run). closed r.count r seen) (sym (run-is text atom within)) ∙ sym (passed-closing seen (run_of_atom (span_of text atom))) ∙ ap (λ k. passed seen (piece_by k (span_of text atom) ∷ [])) (sym is) in
      subst (λ s. Keeps s tokens places openers) same (h (omega (arith, source-length text atom within, long)) (omega arith))

  pub step-entry : {tokens : List Token} {places : List ℕ} {openers : List KeptOpener} (e : Entry) → piece_of (span_of text atom) ≡ entry e → Keeps (added (e ∷ []) seen) tokens places openers → Keeps next tokens places openers
  step-entry {tokens = tokens} {places = places} {openers = openers} e is h =
      subst (λ s. Keeps s tokens places openers) (sym (passed-entry seen e) ∙ ap (λ p. passed seen (p ∷ [])) (sym is)) h

  pub step-byte : {tokens tokens' : List Token} {places : List ℕ} {openers : List KeptOpener} → atom.kind ≡ Byte → IsOneText (source_in text atom) → tokens' ≡ tokens ++ token.Plain atom.start atom.len ∷ [] → Keeps seen tokens places openers → Keeps next tokens' places openers
  unfolding item_tokens height
  step-byte {tokens = tokens} is one t k =
      step-entry (item (plain atom.start (source_in text atom))) (ap (λ k. piece_by k (span_of text atom)) is)
      (item-kept (plain atom.start (source_in text atom)) seen refl
      (t ∙ ap₂ (λ n f. tokens ++ token.Plain atom.start n ∷ f) (sym (source-length text atom within)) (sym (fills-none (source_in text atom) one))) k)

  pub step-sealed : {tokens tokens' : List Token} {places : List ℕ} {openers : List KeptOpener} → atom.kind ≡ Sealed → tokens' ≡ tokens ++ token.Sealed atom.start atom.len ∷ [] → Keeps seen tokens places openers → Keeps next tokens' places openers
  unfolding item_tokens height
  step-sealed {tokens = tokens} is t k =
      step-entry (item (sealed atom.start (source_in text atom))) (ap (λ k. piece_by k (span_of text atom)) is)
      (item-kept (sealed atom.start (source_in text atom)) seen refl (t ∙ ap (λ n. tokens ++ token.Sealed atom.start n ∷ []) (sym (source-length text atom within))) k)

  pub step-nothing : {tokens tokens' : List Token} {places : List ℕ} {openers : List KeptOpener} → piece_of (span_of text atom) ≡ entry (item (nothing atom.start (source_in text atom))) → tokens' ≡ tokens ++ token.Nothing atom.start atom.len ∷ [] → Keeps seen tokens places openers → Keeps next tokens' places openers
  unfolding item_tokens height
  step-nothing {tokens = tokens} is t k =
      step-entry (item (nothing atom.start (source_in text atom))) is
      (item-kept (nothing atom.start (source_in text atom)) seen refl (t ∙ ap (λ n. tokens ++ token.Nothing atom.start n ∷ []) (sym (source-length text atom within))) k)

  pub step-bar : {tokens : List Token} {places : List ℕ} {openers : List KeptOpener} → atom.kind ≡ Bar → Keeps (added (bar atom.start ∷ []) seen) tokens places openers → Keeps next tokens places openers
  step-bar is k = step-entry (bar atom.start) (ap (λ k. piece_by k (span_of text atom)) is) k

  pub step-equals : {tokens : List Token} {places : List ℕ} {openers : List KeptOpener} → atom.kind ≡ Equals → Keeps (added (equals atom.start ∷ []) seen) tokens places openers → Keeps next tokens places openers
  step-equals is k = step-entry (equals atom.start) (ap (λ k. piece_by k (span_of text atom)) is) k

pub default-nothing : (kind : AtomKind) (atom : Atom_at) → kind ≢ Open → kind ≢ Close → kind ≢ Bar → kind ≢ Equals → kind ≢ Byte → kind ≢ Sealed → piece_by kind atom ≡ entry (item (nothing atom.start atom.source))
default-nothing LineComment atom o cl b e y s = refl
default-nothing Comment atom o cl b e y s = refl
default-nothing Sealed atom o cl b e y s = absurd (s refl)
default-nothing Ignored atom o cl b e y s = refl
default-nothing Tag atom o cl b e y s = refl
default-nothing Open atom o cl b e y s = absurd (o refl)
default-nothing Close atom o cl b e y s = absurd (cl refl)
default-nothing Bar atom o cl b e y s = absurd (b refl)
default-nothing Equals atom o cl b e y s = absurd (e refl)
default-nothing Byte atom o cl b e y s = absurd (y refl)

-- ---- all atoms

byte-or-other : (kind : AtomKind) → (kind ≡ Byte) ⊎ (kind ≢ Byte)
byte-or-other LineComment = inr (λ e. absurd (cc))
byte-or-other Comment = inr (λ e. absurd (cc))
byte-or-other Sealed = inr (λ e. absurd (cc))
byte-or-other Ignored = inr (λ e. absurd (cc))
byte-or-other Tag = inr (λ e. absurd (cc))
byte-or-other Open = inr (λ e. absurd (cc))
byte-or-other Close = inr (λ e. absurd (cc))
byte-or-other Bar = inr (λ e. absurd (cc))
byte-or-other Equals = inr (λ e. absurd (cc))
byte-or-other Byte = inl refl

-- what is kept of the atoms that were read, with those ahead
pub record AreMatched (all ahead : List Atom_at) (m : Matching) : Type 0 where
  pub seen : PassState
  pub kept_of : PassState
  pub kept : IsKept kept_of m
  pub alike : SeenAlike seen kept_of
  pub goes_on : passed seen (map piece_of ahead) ≡ passed nothing_seen (map piece_of all)

-- an atom that was read, and what was seen of the text then
record IsPassed (before after : List Atom_at) (seen other : PassState) (atom : Atom_at) : Type 0 where
  then_seen : PassState
  same : passed seen (map piece_of before) ≡ passed then_seen (map piece_of after)
  alike : SeenAlike then_seen (passed other (piece_of atom ∷ []))

atom-passed : (text : List ℕ) (before after : List Atom_at) (atom : Atom) (seen other : PassState) → IsNextAtom text before after atom → SeenAlike seen other → IsPassed before after seen other (span_of text atom)
atom-passed text before after atom seen other next k = either (byte-or-other atom.kind)
  where
    source : List ℕ
    source = source_in text atom

    either : (atom.kind ≡ Byte) ⊎ (atom.kind ≢ Byte) → IsPassed before after seen other (span_of text atom)
    either (inl is) =
        let bytes : List Atom_at = byte_atoms atom.start source in
        let some : 0 < length source = omega (arith, source-length text atom next.within, next.within.some) in
        let one : added (item (plain atom.start source) ∷ []) other ≡ passed other (piece_of (span_of text atom) ∷ []) =
        sym (passed-entry other (item (plain atom.start source))) ∙ ap (λ k. passed other (piece_by k (span_of text atom) ∷ [])) (sym is) in
        record {
          then_seen = passed seen (map piece_of bytes);
          same =
              ap (λ t. passed seen (map piece_of t)) (next.bytes is).0
              ∙ ap (passed seen) (map-append piece_of bytes after)
              ∙ passed-all seen (map piece_of bytes) (map piece_of after);
          alike = subst (SeenAlike (passed seen (map piece_of bytes))) one (bytes-alike atom.start source some k);
        }
    either (inr ne) = record {
      then_seen = passed seen (piece_of (span_of text atom) ∷ []);
      same = ap (λ t. passed seen (map piece_of t)) (next.other ne) ∙ passed-all seen (piece_of (span_of text atom) ∷ []) (map piece_of after);
      alike = passed-alike (piece_of (span_of text atom)) k;
    }

pub matched-more : (text : List ℕ) (all before after : List Atom_at) (atom : Atom) (m m' : Matching) → IsNextAtom text before after atom → AreMatched all before m
    → ((seen : PassState) → IsKept seen m → IsRunWhereMarks text atom → (atom.kind ≡ Byte → IsOneText (source_in text atom)) → IsKept (passed seen (piece_of (span_of text atom) ∷ [])) m')
    → AreMatched all after m'
matched-more text all before after atom m m' next k step =
    let p = atom-passed text before after atom k.seen k.kept_of next k.alike in
    record {
      seen = p.then_seen;
      kept_of = passed k.kept_of (piece_of (span_of text atom) ∷ []);
      kept = step k.kept_of k.kept next.marks (λ is. (next.bytes is).1);
      alike = p.alike;
      goes_on = sym p.same ∙ k.goes_on;
    }

pub matched-ends : (all ahead : List Atom_at) (m : Matching) {tokens : List Token} → ahead ≡ [] → AreMatched all ahead m → tokens ≡ plained (drop 0 m.bars.items) m.tokens.items
    → laid tokens ≡ laid (items_tokens (map item_of (pieces_seen (passed nothing_seen (map piece_of all)))))
unfolding passed
matched-ends all ahead m none k t =
    let seen : PassState = k.kept_of in
    let end : k.seen ≡ passed nothing_seen (map piece_of all) = ap (λ a. passed k.seen (map piece_of a)) (sym none) ∙ k.goes_on in
    ap laid
    (t ∙ ap₂ plained k.kept.bars_are (k.kept.tokens_are ∙ sym (append-nil (tokens_by seen.first seen.openers)))
    ∙ plained-all seen.first seen.openers [] ∙ append-nil (items_tokens (map item_of (pieces_seen seen))))
    ∙ sym (seen-laid k.alike)
    ∙ ap (λ s. laid (items_tokens (map item_of (pieces_seen s)))) end

pub matched-begins : (all : List Atom_at) (m : Matching) → m.tokens.items ≡ [] → m.bars.items ≡ [] → m.openers.items ≡ [] → AreMatched all all m
matched-begins all m t b l = record {
  seen = nothing_seen;
  kept_of = nothing_seen;
  kept = record { tokens_are = t; bars_are = b; openers_are = l; fit = tt };
  alike = nothing-alike nothing_seen refl;
  goes_on = refl;
}

-- text that comes as one is one token
pub one-laid : (text : List ℕ) (all : List Atom_at) → IsNextAtom text all [] (record { kind = Byte; start = 0; len = length text })
    → laid (token.Plain 0 (length text) ∷ []) ≡ laid (items_tokens (map item_of (pieces_seen (passed nothing_seen (map piece_of all)))))
unfolding passed item_tokens
one-laid text all next =
    let atom : Atom = record { kind = Byte; start = 0; len = length text } in
    let p = atom-passed text all [] atom nothing_seen nothing_seen next (nothing-alike nothing_seen refl) in
    let made : laid (items_tokens (map item_of (pieces_seen (passed nothing_seen (piece_of (span_of text atom) ∷ []))))) ≡ laid (token.Plain 0 (length (source_in text atom)) ∷ []) = plain-laid 0 (source_in text atom) [] in
    ap (λ n. laid (token.Plain 0 n ∷ [])) (sym (source-length text atom next.within))
    ∙ sym made
    ∙ sym (seen-laid p.alike)
    ∙ ap (λ s. laid (items_tokens (map item_of (pieces_seen s)))) (sym p.same)

-- fewer atoms are ahead
pub fewer-ahead : (text : List ℕ) (before after : List Atom_at) (atom : Atom) → IsNextAtom text before after atom → length after < length before
fewer-ahead text before after atom next = either (byte-or-other atom.kind)
  where
    long : (at : ℕ) (source : List ℕ) → length (byte_atoms at source) ≡ length source
    long at [] = refl
    long at (b ∷ source) = ap suc (long (at + 1) source)

    either : (atom.kind ≡ Byte) ⊎ (atom.kind ≢ Byte) → length after < length before
    either (inl is) =
        omega (arith, ap length (next.bytes is).0, length-append (byte_atoms atom.start (source_in text atom)) after, long atom.start (source_in text atom), source-length text atom next.within, next.within.some)
    either (inr ne) = omega (arith, ap length (next.other ne))
