-- The spans of a text from a place on, one at a time.
use Rattle.std.proofs.Common.{◌≡◌, ℕ, zero, suc, ◌+◌, ◌-◌, ◌<◌, ◌≤◌, List, [], ◌∷◌, length, get_or, take, drop, slice_get, Option, Some, refl, ap, ap₂, sym, ◌∙◌, arith, length-drop, drop-cons}
use Rattle.std.proofs.lemmas.List.{drop-drop}
use Rattle.wk_text_rules.specs.Shapes.{Span, spans_from}
use Rattle.wk_tree_laws.proofs.SpanLemmas.{before_at, spans_from-skip}
use Rattle.wk_lex.specs.Places.{byte_before}

pub get-is : (text : List ℕ) (at : ℕ) → at < length text → slice_get text at ≡ Some (get_or text at 0)
get-is [] at h = absurd (omega arith)
get-is (b ∷ text) zero h = refl
get-is (b ∷ text) (suc at) h = get-is text at (omega arith)

module _ {K : Type 0} (begins : Option ℕ → List ℕ → K × List ℕ) where
  -- the byte before a place further on
  before-is : (text : List ℕ) (n at : ℕ) → at + n < length text → before_at begins (Some (get_or text at 0)) n (drop (suc at) text) ≡ byte_before (suc (at + n)) text
  before-is text zero at h = sym (get-is text at (omega arith)) ∙ ap (λ k. slice_get text k) (let same : at ≡ at + 0 = omega arith in same)
  before-is text (suc n) at h =
      let within : suc at < length text = omega arith in
      ap (λ xs. before_at begins (Some (get_or text at 0)) (suc n) xs) (drop-cons text (suc at) 0 within)
      ∙ before-is text n (suc at) (omega arith)
      ∙ ap (λ k. byte_before (suc k) text) (let same : suc at + n ≡ at + suc n = omega arith in same)

  -- the spans from a place on
  abbrev pub spans_at : List ℕ → ℕ → List (Span K ℕ)
  spans_at text at = spans_from begins at (byte_before at text) 0 (drop at text)

  -- the span that begins at a place, which ends at another
  abbrev pub span_at : List ℕ → ℕ → ℕ → Span K ℕ
  span_at text at end = record { kind = (begins (byte_before at text) (drop at text)).0; start = at; source = take (end - at) (drop at text) }

  first-span : (at : ℕ) (before : Option ℕ) (x : ℕ) (xs : List ℕ) (more : ℕ) → length xs - length (begins before (x ∷ xs)).1 ≡ more → spans_from begins at before 0 (x ∷ xs) ≡ record { kind = (begins before (x ∷ xs)).0; start = at; source = take (suc more) (x ∷ xs) } ∷ spans_from begins (suc at) (Some x) more xs
  unfolding spans_from
  first-span at before x xs more e =
      ap (λ m. record { kind = (begins before (x ∷ xs)).0; start = at; source = take (suc m) (x ∷ xs) } ∷ spans_from begins (suc at) (Some x) m xs) e

  -- a span and those behind it
  pub spans_at-step : (text : List ℕ) (at end : ℕ) → at < end → end ≤ length text → length (begins (byte_before at text) (drop at text)).1 ≡ length text - end → spans_at text at ≡ span_at text at end ∷ spans_at text end
  spans_at-step text at end low high e =
      let x : ℕ = get_or text at 0 in
      let xs : List ℕ = drop (suc at) text in
      let before : Option ℕ = byte_before at text in
      let more : ℕ = end - suc at in
      let whole : drop at text ≡ x ∷ xs = drop-cons text at 0 (omega arith) in
      let left : length (begins before (x ∷ xs)).1 ≡ length text - end = ap (λ t. length (begins before t).1) (sym whole) ∙ e in
      let e_more : length xs - length (begins before (x ∷ xs)).1 ≡ more = omega (arith, left, length-drop (suc at) text) in
      let skip : spans_from begins (suc at) (Some x) more xs ≡ spans_from begins (suc at + more) (before_at begins (Some x) more xs) 0 (drop more xs) =
      spans_from-skip begins (suc at) (Some x) more xs (omega (arith, length-drop (suc at) text)) in
      let place : suc at + more ≡ end = omega arith in
      let last : before_at begins (Some x) more xs ≡ byte_before end text = before-is text more at (omega arith) ∙ ap (λ k. byte_before k text) (let again : suc (at + more) ≡ end = omega arith in again) in
      let rest : drop more xs ≡ drop end text = drop-drop more (suc at) text ∙ ap (λ k. drop k text) place in
      let size : suc more ≡ end - at = omega arith in
      let behind : spans_from begins (suc at) (Some x) more xs ≡ spans_from begins end (byte_before end text) 0 (drop end text) =
      skip
      ∙ ap (λ n. spans_from begins n (before_at begins (Some x) more xs) 0 (drop more xs)) place
      ∙ ap (λ b. spans_from begins end b 0 (drop more xs)) last
      ∙ ap (λ t. spans_from begins end (byte_before end text) 0 t) rest in
      ap (λ t. spans_from begins at before 0 t) whole
      ∙ first-span at before x xs more e_more
      ∙ ap₂ (λ (s : Span K ℕ) r. s ∷ r)
      (ap (λ t. record { kind = (begins before t).0; start = at; source = take (suc more) t }) (sym whole) ∙ ap (λ n. record { kind = (begins before (drop at text)).0; start = at; source = take n (drop at text) }) size)
      behind

  pub spans_at-end : (text : List ℕ) (at : ℕ) → drop at text ≡ [] → spans_at text at ≡ []
  unfolding spans_from
  spans_at-end text at e = ap (λ t. spans_from begins at (byte_before at text) 0 t) e
