-- What holds of the spans that a text is cut into, whatever begins them.
use Rattle.std.proofs.Common.{◌≡◌, ℕ, zero, suc, ◌+◌, ◌-◌, ◌≤◌, min, List, [], ◌∷◌, ◌++◌, length, take, drop, flat_map, Option, Some, None, refl, ap, sym, ◌∙◌, arith, take-append-drop, length-take, add-zero, le_of_suc-le-suc}
use Rattle.std.specs.List.{AllByRecursion}
use Rattle.wk_tree_laws.specs.Places.{AreSpansAt}
use Rattle.wk_text_rules.specs.Shapes.{Span, spans_from, spans}

module _ {K X : Type 0} (begins : Option X → List X → K × List X) where
  -- the sources joined are the text
  pub spans_from-source : (start : ℕ) (before : Option X) (skip : ℕ) (xs : List X) → flat_map (λ (s : Span K X). s.source) (spans_from begins start before skip xs) ≡ drop skip xs
  unfolding spans_from
  spans_from-source start before zero [] = refl
  spans_from-source start before (suc skip) [] = refl
  spans_from-source start before zero (x ∷ xs) =
      let more : ℕ = length xs - length (begins before (x ∷ xs)).1 in
      ap (λ rest. x ∷ (take more xs ++ rest)) (spans_from-source (suc start) (Some x) more xs)
      ∙ ap (λ rest. x ∷ rest) (take-append-drop more xs)
  spans_from-source start before (suc skip) (x ∷ xs) = spans_from-source (suc start) (Some x) skip xs

  pub spans-source : (text : List X) → flat_map (λ (s : Span K X). s.source) (spans begins text) ≡ text
  spans-source text = spans_from-source 0 None 0 text

  -- the spans stand in a row
  pub spans_from-at : (place start : ℕ) (before : Option X) (skip : ℕ) (xs : List X) → place ≡ start + min skip (length xs) → AreSpansAt place (spans_from begins start before skip xs)
  unfolding spans_from
  spans_from-at place start before zero [] e = tt
  spans_from-at place start before (suc skip) [] e = tt
  spans_from-at place start before zero (x ∷ xs) e =
      let more : ℕ = length xs - length (begins before (x ∷ xs)).1 in
      let long : length (take (suc more) (x ∷ xs)) ≡ suc (min more (length xs)) = ap suc (length-take more xs) in
      (omega arith, omega arith, spans_from-at (place + length (take (suc more) (x ∷ xs))) (suc start) (Some x) more xs (omega arith))
  spans_from-at place start before (suc skip) (x ∷ xs) e = spans_from-at place (suc start) (Some x) skip xs (omega arith)

  pub spans-at : (text : List X) → AreSpansAt 0 (spans begins text)
  spans-at text = spans_from-at 0 0 None 0 text (omega arith)

  -- the element before a place, which is `before` at the start
  abbrev pub before_at : Option X → ℕ → List X → Option X
  before_at before zero xs = before
  before_at before (suc n) [] = before
  before_at before (suc n) (x ∷ xs) = before_at (Some x) n xs

  -- elements that belong to a span before are passed over
  pub spans_from-skip : (start : ℕ) (before : Option X) (skip : ℕ) (xs : List X) → skip ≤ length xs → spans_from begins start before skip xs ≡ spans_from begins (start + skip) (before_at before skip xs) 0 (drop skip xs)
  unfolding spans_from
  spans_from-skip start before zero xs few = ap (λ n. spans_from begins n before 0 xs) (sym (add-zero start))
  spans_from-skip start before (suc skip) [] few = absurd (omega arith)
  spans_from-skip start before (suc skip) (x ∷ xs) few =
      spans_from-skip (suc start) (Some x) skip xs (le_of_suc-le-suc few)
      ∙ ap (λ n. spans_from begins n (before_at (Some x) skip xs) 0 (drop skip xs)) (omega arith)

  -- what holds of each span that begins at a place holds of all spans
  module _ (P : K → List X → Type 0) (holds : (before : Option X) (x : X) (xs : List X) → P (begins before (x ∷ xs)).0 (take (suc (length xs - length (begins before (x ∷ xs)).1)) (x ∷ xs))) where
    pub spans_from-all : (start : ℕ) (before : Option X) (skip : ℕ) (xs : List X) → AllByRecursion (λ (s : Span K X). P s.kind s.source) (spans_from begins start before skip xs)
    unfolding spans_from
    spans_from-all start before zero [] = tt
    spans_from-all start before (suc skip) [] = tt
    spans_from-all start before zero (x ∷ xs) =
        (holds before x xs, spans_from-all (suc start) (Some x) (length xs - length (begins before (x ∷ xs)).1) xs)
    spans_from-all start before (suc skip) (x ∷ xs) = spans_from-all (suc start) (Some x) skip xs

    pub spans-all : (text : List X) → AllByRecursion (λ (s : Span K X). P s.kind s.source) (spans begins text)
    spans-all text = spans_from-all 0 None 0 text

  -- what holds of each span that begins at a place of which S holds, S being kept by each element that is passed,
  -- holds of all spans of a text of which S holds
  module _ (S : List X → Type 0) (passed : (x : X) (xs : List X) → S (x ∷ xs) → S xs) (P : K → List X → Type 0) (holds : (before : Option X) (x : X) (xs : List X) → S (x ∷ xs) → P (begins before (x ∷ xs)).0 (take (suc (length xs - length (begins before (x ∷ xs)).1)) (x ∷ xs))) where
    spans_from-all-of : (start : ℕ) (before : Option X) (skip : ℕ) (xs : List X) → S xs → AllByRecursion (λ (s : Span K X). P s.kind s.source) (spans_from begins start before skip xs)
    unfolding spans_from
    spans_from-all-of start before zero [] s = tt
    spans_from-all-of start before (suc skip) [] s = tt
    spans_from-all-of start before zero (x ∷ xs) s =
        (holds before x xs s, spans_from-all-of (suc start) (Some x) (length xs - length (begins before (x ∷ xs)).1) xs (passed x xs s))
    spans_from-all-of start before (suc skip) (x ∷ xs) s = spans_from-all-of (suc start) (Some x) skip xs (passed x xs s)

    pub spans-all-of : (text : List X) → S text → AllByRecursion (λ (s : Span K X). P s.kind s.source) (spans begins text)
    spans-all-of text s = spans_from-all-of 0 None 0 text s
