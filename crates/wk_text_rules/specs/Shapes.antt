-- Shapes of the parts of a text, and texts cut into spans by them. A shape says of a text whether it begins
-- with a part of its form, and what follows that part.
use Rattle.std.specs.Prelude.{ℕ, zero, suc, ◌-◌, ◌==◌, Bool, not, List, [], ◌∷◌, length, take, drop, Option, Some, None, option_map, option_and_then, if◌then◌else◌}
use Rattle.std.specs.Char.{eq_ignore_ascii_case}
use Rattle.std.specs.List.{list_any, prefix_len, starts_with, ends_with}
use Rattle.std.specs.Option.{option_or}

infixr 50 ◌and_then◌
infixr 40 ◌or_else◌
-- what follows the part that fits, if one does
abbrev pub Shape : Type 0 → Type 0
Shape X = List X → Option (List X)

-- the word, each of its elements the same as the text's by a test
abbrev pub word_by : {X : Type 0} → (X → X → Bool) → List X → Shape X
word_by same word text = if starts_with same text word then Some (drop (length word) text) else None

-- the word itself
abbrev pub exactly : List ℕ → Shape ℕ
exactly word = word_by (λ a b. a == b) word

-- the word, in whichever case its ASCII letters are written
abbrev pub in_any_case : List ℕ → Shape ℕ
in_any_case word = word_by eq_ignore_ascii_case word

-- one element that passes the test
abbrev pub one_of : {X : Type 0} → (X → Bool) → Shape X
one_of test [] = None
one_of test (x ∷ xs) = if test x then Some xs else None

-- the longest run of elements that pass the test, none among them
abbrev pub run_of : {X : Type 0} → (X → Bool) → Shape X
run_of test text = Some (drop (prefix_len test text) text)

-- one shape, and then the other
abbrev pub ◌and_then◌ : {X : Type 0} → Shape X → Shape X → Shape X
◌and_then◌ first second text = option_and_then second (first text)

-- the first shape where it fits, else the second
abbrev pub ◌or_else◌ : {X : Type 0} → Shape X → Shape X → Shape X
◌or_else◌ first second text = let otherwise = second text in option_or (first text) otherwise

-- the shape where it fits, and else nothing
abbrev pub perhaps : {X : Type 0} → Shape X → Shape X
perhaps shape text = option_or (shape text) (Some text)

-- all that is left
abbrev pub to_the_end : {X : Type 0} → Shape X
to_the_end text = Some []

-- what stands before the nearest place at which the shape fits, and what follows the part that fits there
unfoldable pub split_at_nearest : {X : Type 0} → Shape X → List X → Option (List X × List X)
split_at_nearest shape [] = option_map (λ rest. ([], rest)) (shape [])
split_at_nearest shape (x ∷ xs) =
    let further = option_map (λ found. (x ∷ found.0, found.1)) (split_at_nearest shape xs) in
    elim (shape (x ∷ xs)) [ Some rest ↦ Some ([], rest) | None ↦ further ]

-- all up to the nearest place at which the shape fits, and the part that fits there
abbrev pub up_to : {X : Type 0} → Shape X → Shape X
up_to shape text = option_map (λ found. found.1) (split_at_nearest shape text)

-- the part of a text that stands before what follows it
abbrev pub part_before : {X : Type 0} → List X → List X → List X
part_before text rest = take (length text - length rest) text

-- a shape whose part passes a test besides
abbrev pub such_that : {X : Type 0} → (List X → Bool) → Shape X → Shape X
such_that test shape text =
    option_and_then (λ rest. if test (part_before text rest) then Some rest else None) (shape text)

-- the shape with a part that ends in the word
abbrev pub ending_in : List ℕ → Shape ℕ → Shape ℕ
ending_in word shape = such_that (λ part. ends_with (λ a b. a == b) part word) shape

-- the shape with a part in which no byte is this one
abbrev pub without_byte : ℕ → Shape ℕ → Shape ℕ
without_byte byte shape = such_that (λ part. not (list_any (λ b. b == byte) part)) shape

-- a shape as often as it fits one time behind the other, at most so many times
unfoldable pub repeated : {X : Type 0} → ℕ → Shape X → Shape X
repeated zero shape text = Some text
repeated (suc n) shape text = elim (shape text) [ Some rest ↦ repeated n shape rest | None ↦ Some text ]

-- a shape once, and then as often as it fits; a text of n elements has room for n
abbrev pub one_or_more : {X : Type 0} → Shape X → Shape X
one_or_more shape text = option_and_then (λ rest. repeated (length rest) shape rest) (shape text)

-- the first of several shapes, each with a value, that fits, as its value and what follows; else what is given
abbrev pub first_that_fits : {K X : Type 0} → List (K × Shape X) → K × List X → List X → K × List X
first_that_fits [] otherwise text = otherwise
first_that_fits (alternative ∷ alternatives) otherwise text =
    let later = first_that_fits alternatives otherwise text in
    elim (alternative.1 text) [ Some rest ↦ (alternative.0, rest) | None ↦ later ]

-- ---- texts cut into spans

-- a part of a text: its kind, the place at which it starts, and its elements
pub record Span (K X : Type 0) : Type 0 where
  pub kind : K
  pub start : ℕ
  pub source : List X

-- The spans of a text from a place on, the first of them behind `skip` elements that belong to a span before.
-- `begins` says what kind of span begins at a place, and what follows it, by the element before the place, if
-- there is one, and the rest of the text. A span has at least one element.
unfoldable pub spans_from : {K X : Type 0} → (Option X → List X → K × List X) → ℕ → Option X → ℕ → List X → List (Span K X)
spans_from begins start before skip [] = []
spans_from begins start before zero (x ∷ xs) =
    let found = begins before (x ∷ xs) in
    let more = length xs - length found.1 in
    record { kind = found.0; start = start; source = take (suc more) (x ∷ xs) }
    ∷ spans_from begins (suc start) (Some x) more xs
spans_from begins start before (suc skip) (x ∷ xs) = spans_from begins (suc start) (Some x) skip xs

-- the spans that a text is cut into, from its start to its end
abbrev pub spans : {K X : Type 0} → (Option X → List X → K × List X) → List X → List (Span K X)
spans begins text = spans_from begins 0 None 0 text
