-- The lines of what was read of a feed, and those that a reader of lines gives of it.
use Rattle.std.proofs.Common.{◌≡◌, ◌≢◌, ℕ, ◌+◌, ◌-◌, ◌<◌, ◌≤◌, Bool, true, false, cond, eqb, List, [], ◌∷◌, ◌++◌, length, map, take, Option, Some, None, refl, sym, ap, ◌∙◌, arith, length-append, suc, append-nil}
use Rattle.std.proofs.lemmas.Bool.Decides.{nat_tests}
use Rattle.std.proofs.lemmas.List.{map-append, length-map}
use Rattle.std.specs.List.{slice_split, onto_first}
use Rattle.std.specs.Str.Lines.{strip_carriage_return}
use Rattle.wk_text_rules.specs.Lines.{within, lines, lines_of_parts}
use Rattle.wk_feed_rules.specs.Lines.{lines_in}

abbrev is_newline : ℕ → Bool
is_newline b = eqb b 10

-- ---- parts

-- a list with a first part
abbrev IsSomePart : List (List ℕ) → Type 0
IsSomePart parts = (first : List ℕ) × ((others : List (List ℕ)) × (parts ≡ first ∷ others))

split-some : (bytes : List ℕ) → IsSomePart (slice_split is_newline bytes)
split-some [] = ([], ([], refl))
split-some (b ∷ bytes) = by (is_newline b) (slice_split is_newline bytes)
  where
    by : (test : Bool) (parts : List (List ℕ)) → IsSomePart (cond test ([] ∷ parts) (onto_first b parts))
    by true parts = ([], (parts, refl))
    by false [] = (b ∷ [], ([], refl))
    by false (part ∷ parts) = (b ∷ part, (parts, refl))

-- a newline behind all is one more part
split-closed : (bytes : List ℕ) → slice_split is_newline (bytes ++ 10 ∷ []) ≡ slice_split is_newline bytes ++ [] ∷ []
split-closed [] = refl
split-closed (b ∷ bytes) =
    ap (λ (parts : List (List ℕ)). cond (is_newline b) ([] ∷ parts) (onto_first b parts)) (split-closed bytes)
    ∙ by (is_newline b) (slice_split is_newline bytes) (split-some bytes)
  where
    by : (test : Bool) (parts : List (List ℕ)) → IsSomePart parts
        → cond test ([] ∷ (parts ++ [] ∷ [])) (onto_first b (parts ++ [] ∷ [])) ≡ cond test ([] ∷ parts) (onto_first b parts) ++ [] ∷ []
    by true parts some = refl
    by false [] some = absurd (let none : [] ≡ some.0 ∷ some.1.0 = some.1.1 in cc)
    by false (part ∷ parts) some = refl

-- each part has at most so many bytes
abbrev AreWithin : ℕ → List (List ℕ) → Type 0
AreWithin most [] = Unit {0}
AreWithin most (part ∷ parts) = (length part ≤ most) × AreWithin most parts

within-more : (most : ℕ) (parts : List (List ℕ)) → AreWithin most parts → AreWithin (suc most) parts
within-more most [] all = tt
within-more most (part ∷ parts) all = (omega (arith, all.0), within-more most parts all.1)

split-within : (bytes : List ℕ) → AreWithin (length bytes) (slice_split is_newline bytes)
split-within [] = (omega arith, tt)
split-within (b ∷ bytes) = by (is_newline b) (slice_split is_newline bytes) (split-within bytes)
  where
    by : (test : Bool) (parts : List (List ℕ)) → AreWithin (length bytes) parts → AreWithin (length (b ∷ bytes)) (cond test ([] ∷ parts) (onto_first b parts))
    by true parts all = (omega arith, within-more (length bytes) parts all)
    by false [] all = (omega arith, tt)
    by false (part ∷ parts) all = (omega (arith, all.0), within-more (length bytes) parts all.1)

-- a part that is short enough is a line
within-some : (most : ℕ) (part line : List ℕ) → length part ≤ most → within most part line ≡ Some line
within-some most part line h = grind (arith, nat_tests)

-- parts of which each ends with a newline are lines, where none is too long
lines-closed : (most bound : ℕ) (parts : List (List ℕ)) → bound ≤ most → AreWithin bound parts
    → lines_of_parts most (parts ++ [] ∷ []) ≡ map Some (map strip_carriage_return parts)
lines-closed most bound [] few all = refl
lines-closed most bound (part ∷ []) few all =
    ap (λ l. l ∷ []) (within-some most part (strip_carriage_return part) (omega (arith, few, all.0)))
lines-closed most bound (part ∷ next ∷ parts) few all =
    ap (λ l. l ∷ lines_of_parts most (next ∷ (parts ++ [] ∷ []))) (within-some most part (strip_carriage_return part) (omega (arith, few, all.0)))
    ∙ ap (λ ls. Some (strip_carriage_return part) ∷ ls) (lines-closed most bound (next ∷ parts) few all.1)

-- the parts but the last, and the last
init-last : {X : Type 0} (x : X) (xs : List X) → (last : X) × (x ∷ xs ≡ take (length xs) (x ∷ xs) ++ last ∷ [])
init-last x [] = (x, refl)
init-last x (y ∷ ys) = let found = init-last y ys in (found.0, ap (λ l. x ∷ l) found.1)

-- ---- lines

-- Behind all that was read a newline makes a line of what stands there; the others are the lines of what was read.
pub lines-all : (most : ℕ) (read : List ℕ) → length read ≤ most
    → (last : List ℕ) × (lines most (read ++ 10 ∷ []) ≡ map Some (lines_in read) ++ Some last ∷ [])
unfolding lines
lines-all most read few =
    let parts = slice_split is_newline read in
    let some = split-some read in
    let found = init-last some.0 some.1.0 in
    let count : length parts - 1 ≡ length some.1.0 = let l = ap (λ (p : List (List ℕ)). length p) some.1.1 in omega (arith, l) in
    let cut : parts ≡ take (length parts - 1) parts ++ found.0 ∷ [] =
    some.1.1 ∙ found.1 ∙ ap (λ (p : List (List ℕ)). take (length some.1.0) p ++ found.0 ∷ []) (sym some.1.1)
    ∙ ap (λ n. take n parts ++ found.0 ∷ []) (sym count) in (
      strip_carriage_return found.0,
      ap (lines_of_parts most) (split-closed read)
          ∙ lines-closed most (length read) parts few (split-within read)
          ∙ ap (λ (p : List (List ℕ)). map Some (map strip_carriage_return p)) cut
          ∙ ap (map Some) (map-append strip_carriage_return (take (length parts - 1) parts) (found.0 ∷ []))
          ∙ map-append Some (lines_in read) (strip_carriage_return found.0 ∷ []),
    )

tail-none : {X : Type 0} (x y : X) (ys : List X) → x ∷ [] ≡ y ∷ ys → [] ≡ ys
tail-none x y ys e = cc

none-behind : {X : Type 0} (before : List X) (behind : List (Option X)) → [] ≡ map Some before ++ behind → (behind ≡ [] → ⊥) → ⊥
none-behind [] behind e some = some (sym e)
none-behind (c ∷ before) behind e some = absurd (let none : [] ≡ Some c ∷ (map Some before ++ behind) = e in cc)

-- a list that begins with others, but for its last one
begins-with : {X : Type 0} (all before : List X) (last : X) (behind : List (Option X)) → map Some all ++ Some last ∷ [] ≡ map Some before ++ behind
    → (behind ≡ [] → ⊥) → (more : List X) × (all ≡ before ++ more)
begins-with all [] last behind is some = (all, refl)
begins-with [] (b ∷ before) last behind is some =
    absurd (none-behind before behind (tail-none (Some last) (Some b) (map Some before ++ behind) is) some)
begins-with (a ∷ all) (b ∷ before) last behind is some =
    let e : Some a ∷ (map Some all ++ Some last ∷ []) ≡ Some b ∷ (map Some before ++ behind) = is in
    let same : a ≡ b = cc in
    let tails : map Some all ++ Some last ∷ [] ≡ map Some before ++ behind = cc in
    let later = begins-with all before last behind tails some in
    (later.0, ap (λ l. a ∷ l) later.1 ∙ ap (λ x. x ∷ (before ++ later.0)) same)

-- a line stands where a newline does
lines-some : (most : ℕ) (bytes : List ℕ) → lines most (bytes ++ 10 ∷ []) ≡ [] → ⊥
unfolding lines
lines-some most bytes is =
    let some = split-some bytes in
    by some.0 some.1.0
    (sym (ap (λ (p : List (List ℕ)). lines_of_parts most (p ++ [] ∷ [])) some.1.1) ∙ (sym (ap (lines_of_parts most) (split-closed bytes)) ∙ is))
  where
    by : (first : List ℕ) (others : List (List ℕ)) → lines_of_parts most ((first ∷ others) ++ [] ∷ []) ≡ [] → ⊥
    by first [] e = absurd (let none : within most first (strip_carriage_return first) ∷ [] ≡ [] = e in cc)
    by first (next ∷ others) e =
        absurd (let none : within most first (strip_carriage_return first) ∷ lines_of_parts most (next ∷ (others ++ [] ∷ [])) ≡ [] = e in cc)

some-behind : (whole : List (Option (List ℕ))) (most : ℕ) (rest : List ℕ) → whole ++ lines most (rest ++ 10 ∷ []) ≡ [] → ⊥
some-behind [] most rest is = lines-some most rest is
some-behind (line ∷ whole) most rest is = absurd (let none : line ∷ (whole ++ lines most (rest ++ 10 ∷ [])) ≡ [] = is in cc)

-- Lines that are done, and behind which others come yet, are the first of all.
pub lines-first : (most : ℕ) (read : List ℕ) (done : List (List ℕ)) (whole : List (Option (List ℕ))) (rest : List ℕ) → length read ≤ most
    → lines most (read ++ 10 ∷ []) ≡ map Some done ++ (whole ++ lines most (rest ++ 10 ∷ []))
    → (more : List (List ℕ)) × (lines_in read ≡ done ++ more)
lines-first most read done whole rest few come =
    let all = lines-all most read few in
    begins-with (lines_in read) done all.0 (whole ++ lines most (rest ++ 10 ∷ [])) (sym all.1 ∙ come) (some-behind whole most rest)

same-length : {X : Type 0} (all before : List X) (last : X) (line : Option X) → map Some all ++ Some last ∷ [] ≡ map Some before ++ line ∷ []
    → (more : List X) → all ≡ before ++ more → more ≡ []
same-length all before last line is [] first = refl
same-length all before last line is (m ∷ more) first =
    let one : length (map Some all ++ Some last ∷ []) ≡ length all + 1 = length-append (map Some all) (Some last ∷ []) ∙ ap (λ n. n + 1) (length-map all Some) in
    let two : length (map Some before ++ line ∷ []) ≡ length before + 1 = length-append (map Some before) (line ∷ []) ∙ ap (λ n. n + 1) (length-map before Some) in
    let same : length (map Some all ++ Some last ∷ []) ≡ length (map Some before ++ line ∷ []) = ap length is in
    let longer : length all ≡ length before + length (m ∷ more) = ap length first ∙ length-append before (m ∷ more) in
    absurd (omega (arith, one, two, same, longer))

-- Lines that are done, and behind which a newline makes one more, are all.
pub lines-done : (most : ℕ) (read : List ℕ) (done : List (List ℕ)) (line : Option (List ℕ)) → length read ≤ most
    → lines most (read ++ 10 ∷ []) ≡ map Some done ++ line ∷ [] → lines_in read ≡ done
lines-done most read done line few come =
    let all = lines-all most read few in
    let same = sym all.1 ∙ come in
    let found = begins-with (lines_in read) done all.0 (line ∷ []) same (λ is. let e : line ∷ [] ≡ [] = is in cc) in
    found.1 ∙ ap (λ (l : List (List ℕ)). done ++ l) (same-length (lines_in read) done all.0 line same found.0 found.1) ∙ append-nil done
