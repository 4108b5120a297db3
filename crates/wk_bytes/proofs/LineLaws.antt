-- The lines of bytes, part by part.
use Rattle.std.specs.declared.vec.Vec.{Vec}
use Rattle.std.proofs.Common.{option_map, ◌≡◌, ◌≢◌, ℕ, ◌+◌, ◌-◌, ◌<◌, ◌≤◌, ◌⊎◌, inl, inr, Bool, true, false, cond, eqb, List, [], ◌∷◌, ◌++◌, length, take, Option, Some, None, refl, sym, ap, ◌∙◌, append_assoc, arith, length-append}
use Rattle.std.proofs.Math.Seq.{take-append-add}
use Rattle.std.proofs.lemmas.Bool.Decides.{nat_tests}
use Rattle.std.proofs.lemmas.Bool.{cases_lt, eqb-true, eqb-false}
use Rattle.std.proofs.lemmas.List.{map-append, length-map, take_all, length-take}
use Rattle.std.proofs.lemmas.List.Elements.{All-append, All-nil, All-cons, All-take}
use Rattle.std.proofs.lemmas.List.Splits.{slice_split_none, slice_split_at, length-slice_split}
use Rattle.std.proofs.lemmas.List.Sums.{sum_by-append, sum_by-cons}
use Rattle.std.specs.List.{count_by, All, slice_split, onto_first}
use Rattle.std.specs.Str.Lines.{strip_carriage_return}
use Rattle.wk_text_rules.specs.Lines.{within, lines, lines_of_parts}
use Rattle.wk_bytes.specs.LineCutter.{HasNoNewline, IsBegun, lines_of}

abbrev pub is_newline : ℕ → Bool
is_newline b = eqb b 10

-- each byte fails the test
fails_each : (part : List ℕ) → HasNoNewline part → All (λ b. is_newline b ≡ false) part
fails_each part h = λ k d i. grind (arith, nat_tests, h k d i)

-- the lines where a first part stands before the other parts
lines_of_parts-cons : (most : ℕ) (part after : List ℕ) →
    lines_of_parts most (part ∷ slice_split is_newline after) ≡ within most part (strip_carriage_return part) ∷ lines_of_parts most (slice_split is_newline after)
lines_of_parts-cons most part [] = refl
lines_of_parts-cons most part (x ∷ xs) = cases (is_newline x) (slice_split is_newline xs)
  where
    cases : (test : Bool) (parts : List (List ℕ)) →
        lines_of_parts most (part ∷ cond test ([] ∷ parts) (onto_first x parts))
        ≡ within most part (strip_carriage_return part) ∷ lines_of_parts most (cond test ([] ∷ parts) (onto_first x parts))
    cases true parts = refl
    cases false [] = refl
    cases false (y ∷ ys) = refl

-- a first whole line
pub lines-whole : (most : ℕ) (part after : List ℕ) → HasNoNewline part → lines most (part ++ 10 ∷ after) ≡ within most part (strip_carriage_return part) ∷ lines most after
unfolding lines
lines-whole most part after h =
    ap (lines_of_parts most) (slice_split_at is_newline part 10 after (fails_each part h) refl) ∙ lines_of_parts-cons most part after

-- a last line, if it is one
pub lines-last : (most : ℕ) (part : List ℕ) → HasNoNewline part → lines most part ≡ lines_of_parts most (part ∷ [])
unfolding lines
lines-last most part h = ap (lines_of_parts most) (slice_split_none is_newline part (fails_each part h))

-- no bytes are no line
pub lines-none : (most : ℕ) (part : List ℕ) → length part ≡ 0 → lines most part ≡ []
unfolding lines
lines-none most [] e = refl
lines-none most (b ∷ bytes) e = absurd (omega arith)

-- a last line that isn't too long
pub lines-short : (most : ℕ) (part : List ℕ) → HasNoNewline part → 0 < length part → length part ≤ most → lines most part ≡ Some part ∷ []
lines-short most part h some short = lines-last most part h ∙ last part some short
  where
    last : (part : List ℕ) → 0 < length part → length part ≤ most → lines_of_parts most (part ∷ []) ≡ Some part ∷ []
    last part some short = grind (arith, nat_tests)

-- bytes have no newline, or there is a first one
pub data Cut (bytes : List ℕ) : Type 0 where
  none : HasNoNewline bytes → Cut bytes
  first : (part after : List ℕ) → HasNoNewline part → bytes ≡ part ++ 10 ∷ after → Cut bytes

cut_at : (b : ℕ) (bytes : List ℕ) (test : Bool) → eqb b 10 ≡ test → Cut bytes → Cut (b ∷ bytes)
cut_at b bytes true e c = first [] bytes (All-nil (λ b. b ≢ 10)) (ap (λ x. x ∷ bytes) (eqb-true b 10 e))
cut_at b bytes false e (none h) = none (All-cons (λ b. b ≢ 10) b bytes (eqb-false b 10 e) h)
cut_at b bytes false e (first part after h eq) =
    first (b ∷ part) after (All-cons (λ b. b ≢ 10) b part (eqb-false b 10 e) h) (ap (λ xs. b ∷ xs) eq)

pub cut_of : (bytes : List ℕ) → Cut bytes
cut_of [] = none (All-nil (λ b. b ≢ 10))
cut_of (b ∷ bytes) = cut_at b bytes (eqb b 10) refl (cut_of bytes)

-- a part that is too long gives no line, whatever line it would be
within-long : (most : ℕ) (part line : List ℕ) → most < length part → within most part line ≡ None
within-long most part line h = grind (arith, nat_tests)

-- what begins with a part that is too long has lines that don't depend on the part's bytes
lines-long_whole : (most : ℕ) (part m after : List ℕ) → HasNoNewline part → most < length part → HasNoNewline m →
    lines most (part ++ (m ++ 10 ∷ after)) ≡ None ∷ lines most after
lines-long_whole most part m after h long hm =
    ap (lines most) (sym (append_assoc part m (10 ∷ after)))
    ∙ (lines-whole most (part ++ m) after (All-append (λ b. b ≢ 10) part m h hm)
    ∙ ap (λ line. line ∷ lines most after) (within-long most (part ++ m) (strip_carriage_return (part ++ m)) (omega (arith, length-append part m))))

lines-long_last : (most : ℕ) (part m : List ℕ) → HasNoNewline part → most < length part → HasNoNewline m → lines most (part ++ m) ≡ None ∷ []
lines-long_last most part m h long hm =
    lines-last most (part ++ m) (All-append (λ b. b ≢ 10) part m h hm) ∙ last (part ++ m) (omega (arith, length-append part m))
  where
    last : (part : List ℕ) → most < length part → lines_of_parts most (part ∷ []) ≡ None ∷ []
    last part h = grind (arith, nat_tests)

lines-long : (most : ℕ) (a b more : List ℕ) → HasNoNewline a → HasNoNewline b → most < length a → most < length b → Cut more → lines most (a ++ more) ≡ lines most (b ++ more)
lines-long most a b more ha hb la lb (none hm) = lines-long_last most a more ha la hm ∙ sym (lines-long_last most b more hb lb hm)
lines-long most a b more ha hb la lb (first m after hm e) =
    rw e (lines-long_whole most a m after ha la hm ∙ sym (lines-long_whole most b m after hb lb hm))

-- the first `most + 1` bytes of a part decide its line
pub lines-take : (most : ℕ) (part more : List ℕ) → HasNoNewline part → lines most (take (most + 1) part ++ more) ≡ lines most (part ++ more)
lines-take most part more h = either (cases_lt most (length part))
  where
    either : (most < length part) ⊎ (length part ≤ most) → lines most (take (most + 1) part ++ more) ≡ lines most (part ++ more)
    either (inl long) =
        lines-long most (take (most + 1) part) part more (All-take (λ b. b ≢ 10) (most + 1) part h) h
        (omega (arith, length-take (most + 1) part)) long (cut_of more)
    either (inr short) =
        let same : take (most + 1) part ≡ part = take_all (most + 1) part (omega arith) in
        ap (λ xs. lines most (xs ++ more)) same

-- a line that becomes whole is the first of the lines
pub lines-push : (most : ℕ) (begin end after more : List ℕ) (line : Option (List ℕ)) → HasNoNewline begin → HasNoNewline end →
    line ≡ within most (begin ++ end) (strip_carriage_return (begin ++ end)) →
    line ∷ lines most (after ++ more) ≡ lines most (begin ++ ((end ++ 10 ∷ after) ++ more))
lines-push most begin end after more line hb he e =
    ap (λ l. l ∷ lines most (after ++ more)) e
    ∙ (sym (lines-whole most (begin ++ end) (after ++ more) (All-append (λ b. b ≢ 10) begin end hb he))
    ∙ ap (lines most) (regroup begin end after more))
  where
    regroup : (begin end after more : List ℕ) → (begin ++ end) ++ 10 ∷ (after ++ more) ≡ begin ++ ((end ++ 10 ∷ after) ++ more)
    regroup begin end after more = simp append_assoc

pub lines_of-push : {A : Type 0} (old : List (Option (Vec ℕ A))) (line : Option (Vec ℕ A)) (others : List (Option (List ℕ))) →
    lines_of (old ++ line ∷ []) ++ others ≡ lines_of old ++ (option_map (λ v. v.items) line ∷ others)
lines_of-push old line others = simp (map-append, append_assoc)

-- a line that becomes whole stands behind those that were
pub lines-push_behind : {A : Type 0} (most : ℕ) (old new : List (Option (Vec ℕ A))) (line : Option (Vec ℕ A)) (part after left more : List ℕ) →
    HasNoNewline part → left ≡ part ++ 10 ∷ after → option_map (λ v. v.items) line ≡ within most part (strip_carriage_return part) →
    new ≡ old ++ line ∷ [] → lines_of new ++ lines most (after ++ more) ≡ lines_of old ++ lines most (left ++ more)
lines-push_behind most old new line part after left more h cut is pushed =
    ap (λ ls. lines_of ls ++ lines most (after ++ more)) pushed
    ∙ (lines_of-push old line (lines most (after ++ more))
    ∙ (ap (λ ls. lines_of old ++ ls) (lines-push most [] part after more (option_map (λ v. v.items) line) (All-nil (λ b. b ≢ 10)) h is)
    ∙ ap (λ xs. lines_of old ++ lines most (xs ++ more)) (sym cut)))

-- the lines of a piece with a newline, behind the rest of a line
pub lines-cut : {A : Type 0} (most : ℕ) (rest end after last kept more : List ℕ) (line : Option (Vec ℕ A)) (one whole : List (Option (Vec ℕ A))) →
    HasNoNewline rest → HasNoNewline end → option_map (λ v. v.items) line ≡ within most (rest ++ end) (strip_carriage_return (rest ++ end)) →
    one ≡ line ∷ [] → lines_of whole ++ lines most (last ++ more) ≡ lines_of one ++ lines most (after ++ more) →
    lines most (kept ++ more) ≡ lines most (last ++ more) →
    lines_of whole ++ lines most (kept ++ more) ≡ lines most (rest ++ ((end ++ 10 ∷ after) ++ more))
lines-cut most rest end after last kept more line one whole hr he is alone others behind =
    ap (λ ls. lines_of whole ++ ls) behind
    ∙ (others
    ∙ (ap (λ ls. lines_of ls ++ lines most (after ++ more)) alone
    ∙ lines-push most rest end after more (option_map (λ v. v.items) line) hr he is))

-- what is kept of a piece behind the rest of a line
kept-is : (most : ℕ) (rest piece : List ℕ) → length rest ≤ most + 1 → take (most + 1) (rest ++ piece) ≡ rest ++ take (most + 1 - length rest) piece
kept-is most rest piece h =
    let e : most + 1 ≡ length rest + (most + 1 - length rest) = omega arith in
    ap (λ n. take n (rest ++ piece)) e ∙ take-append-add rest piece (most + 1 - length rest)

pub lines-kept : (most : ℕ) (rest piece new : List ℕ) → IsBegun most rest → HasNoNewline piece → new ≡ rest ++ take (most + 1 - length rest) piece →
    (more : List ℕ) → lines most (new ++ more) ≡ lines most (rest ++ (piece ++ more))
lines-kept most rest piece new begun h e more =
    ap (λ xs. lines most (xs ++ more)) (e ∙ sym (kept-is most rest piece begun.bounded))
    ∙ (lines-take most (rest ++ piece) more (All-append (λ b. b ≢ 10) rest piece begun.no_newline h)
    ∙ ap (lines most) (append_assoc rest piece more))

-- bytes without a newline, and bytes up to the first one
pub count-none : (part : List ℕ) → HasNoNewline part → count_by is_newline part ≡ 0
count-none part h =
    let parts : length (slice_split is_newline part) ≡ 1 = ap length (slice_split_none is_newline part (fails_each part h)) in
    omega (arith, parts, length-slice_split is_newline part)

pub count-first : (part after bytes : List ℕ) → HasNoNewline part → bytes ≡ part ++ 10 ∷ after → count_by is_newline bytes ≡ 1 + count_by is_newline after
count-first part after bytes h e =
    ap (count_by is_newline) e
    ∙ (sum_by-append (λ b. cond (is_newline b) 1 0) part (10 ∷ after)
    ∙ omega (arith, count-none part h, sum_by-cons (λ b. cond (is_newline b) 1 0) 10 after))

pub length-lines_of : {A : Type 0} (old fresh : List (Option (Vec ℕ A))) → length (lines_of (old ++ fresh)) ≡ length (lines_of old) + length fresh
length-lines_of old fresh =
    let all : length (lines_of (old ++ fresh)) ≡ length (old ++ fresh) = length-map (old ++ fresh) (option_map (λ v. v.items)) in
    let some : length (lines_of old) ≡ length old = length-map old (option_map (λ v. v.items)) in
    omega (arith, all, some, length-append old fresh)
