-- Parts between tags one at a time.
use Rattle.std.proofs.Common.{◌≡◌, ℕ, zero, suc, ◌+◌, ◌-◌, ◌<◌, ◌≤◌, ◌==◌, ◌⊎◌, inl, inr, Bool, true, false, if◌then◌else◌, List, [], ◌∷◌, ◌++◌, length, take, drop, codes, filter_map, Option, Some, None, option_and_then, refl, ap, ap₂, sym, ◌∙◌, arith, append_assoc, append-nil, length-drop}
use Rattle.std.proofs.lemmas.Bool.{cases_lt}
use Rattle.std.proofs.lemmas.List.{drop-drop}
use Rattle.std.specs.List.{concat, cons_option, starts_with}
use Rattle.wk_text_rules.specs.Shapes.{Span, exactly, split_at_nearest, spans_from}
use Rattle.wk_tree_rules.specs.Selection.{part_between, part_at, selected_parts, joined_parts}
use Rattle.wk_lex.specs.Places.{IsNowhereBetween, IsNowhereFrom, IsNearestPlace, byte_before}
use Rattle.wk_lex.specs.Selections.{parts_from, IsPartBetween}
use Rattle.wk_lex.proofs.PlaceLemmas.{split_at_nearest-none, split_at_nearest-some}
use Rattle.wk_lex.proofs.SpanSteps.{spans_at-step}

abbrev Start : List ℕ
Start = codes "<onlyinclude>"

abbrev End : List ℕ
End = codes "</onlyinclude>"

abbrev Found : Type 0
Found = Option (List ℕ) × List ℕ

-- what is found at a place, by what stands between tags there
abbrev found_by : List ℕ → Option (List ℕ × List ℕ) → Found
found_by text o = elim o as (λ _. Found) [ Some found ↦ (Some found.0, found.1) | None ↦ (None, drop 1 text) ]

abbrev kind_of : Span (Option (List ℕ)) ℕ → Option (List ℕ)
kind_of span = span.kind

-- ---- no part at all

none-from : (start : ℕ) (before : Option ℕ) (skip : ℕ) (xs : List ℕ) → ((k : ℕ) → part_between (drop k xs) ≡ None) → filter_map kind_of (spans_from part_at start before skip xs) ≡ []
unfolding spans_from
none-from start before zero [] none = refl
none-from start before (suc skip) [] none = refl
none-from start before zero (x ∷ xs) none =
    let more : ℕ = length xs - length (part_at before (x ∷ xs)).1 in
    let here : (part_at before (x ∷ xs)).0 ≡ None = ap (λ o. (found_by (x ∷ xs) o).0) (none 0) in
    ap₂ (λ k ks. cons_option k ks) here (none-from (suc start) (Some x) more xs (λ k. none (suc k)))
none-from start before (suc skip) (x ∷ xs) none = none-from (suc start) (Some x) skip xs (λ k. none (suc k))

module _ (text : List ℕ) where
  pub parts-none : (from : ℕ) → ((at : ℕ) → from ≤ at → part_between (drop at text) ≡ None) → parts_from text from ≡ []
  parts-none from none = none-from from (byte_before from text) 0 (drop from text) (λ k. ap part_between (drop-drop k from text) ∙ none (from + k) (omega arith))

  no_start : (at : ℕ) → exactly Start (drop at text) ≡ None → part_between (drop at text) ≡ None
  no_start at e = ap (option_and_then (split_at_nearest (exactly End))) e

  no_end-by : (t : Bool) (rest : List ℕ) → split_at_nearest (exactly End) rest ≡ None → option_and_then (split_at_nearest (exactly End)) (if t then Some rest else None) ≡ None
  no_end-by true rest e = e
  no_end-by false rest e = refl

  no_end : (at : ℕ) → IsNowhereFrom (exactly End) text (at + length Start) → part_between (drop at text) ≡ None
  no_end at none =
      no_end-by (starts_with (λ a b. a == b) (drop at text) Start) (drop (length Start) (drop at text))
      (ap (split_at_nearest (exactly End)) (drop-drop (length Start) at text) ∙ split_at_nearest-none (exactly End) text (at + length Start) none)

  pub parts-no_start : (from : ℕ) → IsNowhereFrom (exactly Start) text from → parts_from text from ≡ []
  parts-no_start from none = parts-none from (λ at low. no_start at (none at low))

  pub parts-no_end : (from place : ℕ) → IsNearestPlace Start text from place → IsNowhereFrom (exactly End) text (place + length Start) → parts_from text from ≡ []
  parts-no_end from place near none = parts-none from (λ at low. by_place at low (cases_lt at place))
    where
      by_place : (at : ℕ) → from ≤ at → (at < place) ⊎ (place ≤ at) → part_between (drop at text) ≡ None
      by_place at low (inl h) = no_start at (near.before at low h)
      by_place at low (inr h) = no_end at (λ further behind. none further (omega arith))

  -- ---- no part up to a place

  parts-step : (at : ℕ) → at < length text → part_between (drop at text) ≡ None → parts_from text at ≡ parts_from text (at + 1)
  parts-step at within none =
      let found : part_at (byte_before at text) (drop at text) ≡ (None, drop 1 (drop at text)) = ap (found_by (drop at text)) none in
      let left : length (part_at (byte_before at text) (drop at text)).1 ≡ length text - (at + 1) =
      ap (λ (p : Found). length p.1) found ∙ ap length (drop-drop 1 at text) ∙ length-drop (at + 1) text in
      ap (filter_map kind_of) (spans_at-step part_at text at (at + 1) (omega arith) (omega arith) left)
      ∙ ap (λ (p : Found). cons_option p.0 (parts_from text (at + 1))) found

  parts-pass-by : (n from : ℕ) → from + n ≤ length text → IsNowhereBetween (exactly Start) text from (from + n) → parts_from text from ≡ parts_from text (from + n)
  parts-pass-by zero from within none = ap (parts_from text) (let same : from ≡ from + 0 = omega arith in same)
  parts-pass-by (suc n) from within none =
      parts-step from (omega arith) (no_start from (none from (omega arith) (omega arith)))
      ∙ parts-pass-by n (from + 1) (omega arith) (λ at low high. none at (omega arith) (omega arith))
      ∙ ap (parts_from text) (let same : (from + 1) + n ≡ from + suc n = omega arith in same)

  parts-pass : (from place : ℕ) → from ≤ place → place ≤ length text → IsNowhereBetween (exactly Start) text from place → parts_from text from ≡ parts_from text place
  parts-pass from place low high none =
      let same : from + (place - from) ≡ place = omega arith in
      parts-pass-by (place - from) from (omega arith) (λ at l h. none at l (omega arith)) ∙ ap (parts_from text) same

  -- ---- a part

  pub next-part : (from place end : ℕ) → IsNearestPlace Start text from place → IsNearestPlace End text (place + length Start) end → IsPartBetween text from (place + length Start, end)
  next-part from place end near last =
      let inside : ℕ = place + length Start in
      let stands : (place < inside) × (inside ≤ length text) = near.stands.within in
      let stops : (end < end + length End) × (end + length End ≤ length text) = last.stands.within in
      let part : List ℕ = take (end - inside) (drop inside text) in
      let split : split_at_nearest (exactly End) (drop inside text) ≡ Some (part, drop (end + length End) text) =
      split_at_nearest-some (exactly End) text inside end (end + length End) last.behind last.before last.stands in
      let found : part_at (byte_before place text) (drop place text) ≡ (Some part, drop (end + length End) text) =
      ap (found_by (drop place text)) (ap (option_and_then (split_at_nearest (exactly End))) near.stands.fits ∙ split) in
      let left : length (part_at (byte_before place text) (drop place text)).1 ≡ length text - (end + length End) =
      ap (λ (p : Found). length p.1) found ∙ length-drop (end + length End) text in
      record {
        parts =
            parts-pass from place near.behind (omega arith) near.before
            ∙ ap (filter_map kind_of) (spans_at-step part_at text place (end + length End) (omega arith) (omega arith) left)
            ∙ ap (λ (p : Found). cons_option p.0 (parts_from text (end + length End))) found;
        start = omega arith;
        order = last.behind;
        within = omega arith;
      }

  -- ---- the parts joined

  abbrev pub AreJoined : List ℕ → ℕ → Type 0
  AreJoined joined at = joined ++ concat (parts_from text at) ≡ concat (selected_parts text)

  pub joined-more : (joined : List ℕ) (at start end : ℕ) → IsPartBetween text at (start, end) → AreJoined joined at → AreJoined (joined ++ take (end - start) (drop start text)) (end + length End)
  joined-more joined at start end part all =
      append_assoc joined (take (end - start) (drop start text)) (concat (parts_from text (end + length End)))
      ∙ ap (λ parts. joined ++ concat parts) (sym part.parts)
      ∙ all

  pub joined-all : (joined : List ℕ) (at : ℕ) → parts_from text at ≡ [] → AreJoined joined at → joined ≡ concat (selected_parts text)
  joined-all joined at none all = sym (append-nil joined) ∙ ap (λ parts. joined ++ concat parts) (sym none) ∙ all

  pub joined_parts-some : (part : List ℕ) (parts : List (List ℕ)) → selected_parts text ≡ part ∷ parts → joined_parts (selected_parts text) ≡ Some (concat (selected_parts text))
  joined_parts-some part parts e = ap joined_parts e ∙ ap (λ ps. Some (concat ps)) (sym e)
