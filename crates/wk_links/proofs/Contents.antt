-- The content of brackets, by their places.
use Rattle.std.proofs.Common.{◌≡◌, ◌≢◌, ℕ, ◌+◌, ◌-◌, ◌<◌, ◌≤◌, Bool, true, false, ◌==◌, ◌&&◌, not, nat_le, List, [], ◌∷◌, length, get_or, take, drop, refl, sym, ap, subst, ◌∙◌, inl, inr, arith}
use Rattle.std.specs.Prelude.{Option, Some, None, option_map, option_and_then, is_some, unwrap_or, if◌then◌else◌, slice_index}
use Rattle.std.specs.List.{prefix_len, take_while, drop-map}
use Rattle.std.specs.Option.{option_or}
use Rattle.std.proofs.lemmas.Bool.{cases_Bool, false≢true, false_from_ne_true, le-leb}
use Rattle.std.proofs.lemmas.Bool.Decides.{Decides-eqb, nat_tests}
use Rattle.std.proofs.lemmas.List.{drop-drop, get_or-drop, length-drop, length-map, length-take-le, take-map}
use Rattle.std.proofs.lemmas.List.Sums.{prefix_len-le-length}
use Rattle.wk_text_rules.specs.Marked.{MarkedByte, plainly, holds_plainly}
use Rattle.wk_text_rules.specs.Occurrences.{Content, content, bare, labelled, is_label, is_plain_target, most_label}
use Rattle.wk_text_rules.specs.Shapes.{split_at_nearest}
use Rattle.wk_links.specs.Brackets.{target_end_of, IsClosed, IsBracketsAt, HasNoBrackets, content_in, end_of}
use Rattle.wk_links.specs.Brackets.{no_opening, no_bar, no_label_end, long_label}
use Rattle.wk_links.specs.Pairs.{pair_at, NoPair, IsNearestLabelEnd, HasNoLabelEnd}
use Rattle.wk_links.specs.Parts.{part}
use Rattle.wk_links.specs.Seen.{seen_byte, seen}
use Rattle.wk_text_rules.specs.Targets.{is_target_byte}
use Rattle.wk_links.specs.declared.brackets.Brackets.{Brackets}
use Rattle.wk_links.proofs.Words.{one_plainly, plainly_here, plainly_not, prefix_len-seen, pair_at-drop, pair_within, pair_at-take, nearest_at, nearest_none, HasOpening, opening_before}

seen-drop : (n : ℕ) (out : List MarkedByte) → seen (drop n out) ≡ drop n (seen out)
seen-drop n out = sym (drop-map seen_byte n out)

pair_behind : (b n : ℕ) (out : List MarkedByte) (k : ℕ) → pair_at b (seen (drop n out)) k ≡ pair_at b (seen out) (n + k)
pair_behind b n out k = rw (seen-drop n out) (pair_at-drop b n (seen out) k)

pair_here : (b n : ℕ) (out : List MarkedByte) → pair_at b (seen (drop n out)) 0 ≡ pair_at b (seen out) n
pair_here b n out = let same : n + 0 ≡ n = omega arith in pair_behind b n out 0 ∙ ap (pair_at b (seen out)) same

byte_here : (n : ℕ) (out : List MarkedByte) → slice_index (seen (drop n out)) 0 ≡ slice_index (seen out) n
byte_here n out =
    let same : n + 0 ≡ n = omega arith in
    rw (seen-drop n out) (get_or-drop n (seen out) 0 0 ∙ ap (λ k. get_or (seen out) k 0) same)

abbrev closed_by : List MarkedByte → List MarkedByte → Option Content
closed_by target behind = option_or (bare target behind) (labelled target behind)

abbrev inside_of : List MarkedByte → Option Content
inside_of inside =
    let target = take_while is_plain_target inside in
    closed_by target (drop (length target) inside)

-- the target and what follows it, by their places
inside_by_places : (out : List MarkedByte) (s : ℕ) → inside_of (drop (s + 2) out) ≡ closed_by (part out (s + 2) (target_end_of (seen out) s)) (drop (target_end_of (seen out) s) out)
inside_by_places out s =
    let inside = drop (s + 2) out in
    let n = prefix_len is_plain_target inside in
    let m = prefix_len is_target_byte (drop (s + 2) (seen out)) in
    let same : n ≡ m = prefix_len-seen inside ∙ ap (prefix_len is_target_byte) (seen-drop (s + 2) out) in
    let whole : length (take n inside) ≡ n = length-take-le n inside (prefix_len-le-length is_plain_target inside) in
    let size : m ≡ s + 2 + m - (s + 2) = omega arith in
    ap (closed_by (take n inside)) (ap (λ k. drop k inside) (whole ∙ same) ∙ drop-drop m (s + 2) out)
    ∙ ap (λ k. closed_by (take k inside) (drop (s + 2 + m) out)) (same ∙ size)

-- behind an opening stands a target
open_content : (out : List MarkedByte) (s : ℕ) → pair_at 91 (seen out) s ≡ true → content (drop s out) ≡ closed_by (part out (s + 2) (target_end_of (seen out) s)) (drop (target_end_of (seen out) s) out)
open_content out s h =
    let begins = plainly_here 91 (drop s out) refl refl (pair_here 91 s out ∙ h) in
    ap (option_and_then inside_of) begins ∙ ap inside_of (drop-drop 2 s out) ∙ inside_by_places out s

no_content : (out : List MarkedByte) (s : ℕ) → pair_at 91 (seen out) s ≡ false → content (drop s out) ≡ None
no_content out s h =
    let begins = plainly_not 91 (drop s out) refl refl (pair_here 91 s out ∙ h) in
    ap (option_and_then inside_of) begins

bare_some : (target out : List MarkedByte) (t : ℕ) → pair_at 93 (seen out) t ≡ true → bare target (drop t out) ≡ Some (record { target = target; label = None; rest = drop (t + 2) out })
bare_some target out t h =
    let begins = plainly_here 93 (drop t out) refl refl (pair_here 93 t out ∙ h) in
    ap (option_map (λ (rest : List MarkedByte). record { target = target; label = None; rest = rest })) (begins ∙ ap Some (drop-drop 2 t out))

bare_none : (target out : List MarkedByte) (t : ℕ) → pair_at 93 (seen out) t ≡ false → bare target (drop t out) ≡ None
bare_none target out t h =
    let begins = plainly_not 93 (drop t out) refl refl (pair_here 93 t out ∙ h) in
    ap (option_map (λ (rest : List MarkedByte). record { target = target; label = None; rest = rest })) begins

-- a label where it is one
abbrev labelled_if : List MarkedByte → List MarkedByte × List MarkedByte → Option Content
labelled_if target found =
    if is_label found.0 then Some (record { target = target; label = Some found.0; rest = found.1 }) else None

labelled_bar : (target out : List MarkedByte) (t : ℕ) → slice_index (seen out) t ≡ 124 → labelled target (drop t out) ≡ option_and_then (labelled_if target) (split_at_nearest (plainly (93 ∷ 93 ∷ [])) (drop (t + 1) out))
labelled_bar target out t h =
    let bar : (slice_index (seen (drop t out)) 0 == 124) ≡ true = (Decides-eqb _ 124).1 (byte_here t out ∙ h) in
    let begins : plainly (124 ∷ []) (drop t out) ≡ Some (drop 1 (drop t out)) =
    one_plainly 124 (drop t out) refl refl ∙ ap (λ (b : Bool). if b then Some (drop 1 (drop t out)) else None) bar in
    ap (λ (o : Option (List MarkedByte)). option_and_then (labelled_if target) (option_and_then (split_at_nearest (plainly (93 ∷ 93 ∷ []))) o)) (begins ∙ ap Some (drop-drop 1 t out))

labelled_no_bar : (target out : List MarkedByte) (t : ℕ) → slice_index (seen out) t ≢ 124 → labelled target (drop t out) ≡ None
labelled_no_bar target out t h =
    let other : (slice_index (seen (drop t out)) 0 == 124) ≡ false =
    false_from_ne_true _ (λ is. h (sym (byte_here t out) ∙ (Decides-eqb _ 124).0 is)) in
    let begins : plainly (124 ∷ []) (drop t out) ≡ None =
    one_plainly 124 (drop t out) refl refl ∙ ap (λ (b : Bool). if b then Some (drop 1 (drop t out)) else None) other in
    ap (λ (o : Option (List MarkedByte)). option_and_then (labelled_if target) (option_and_then (split_at_nearest (plainly (93 ∷ 93 ∷ []))) o)) begins

none_behind : (b from to : ℕ) (out : List MarkedByte) → NoPair b (seen out) from to → (k : ℕ) → k < to - from → pair_at b (seen (drop from out)) k ≡ false
none_behind b from to out none k less = pair_behind b from out k ∙ none (from + k) (omega arith) (omega arith)

-- the label and what follows it, by their places
nearest_label : (out : List MarkedByte) (from end : ℕ) → IsNearestLabelEnd (seen out) from end → split_at_nearest (plainly (93 ∷ 93 ∷ [])) (drop from out) ≡ Some (part out from end, drop (end + 2) out)
nearest_label out from end h =
    let there : from + (end - from) ≡ end = omega (arith, h.behind) in
    let past : from + (end - from + 2) ≡ end + 2 = omega (arith, h.behind) in
    let closes : pair_at 93 (seen (drop from out)) (end - from) ≡ true =
    pair_behind 93 from out (end - from) ∙ ap (pair_at 93 (seen out)) there ∙ h.closes in
    nearest_at 93 (end - from) (drop from out) refl refl (none_behind 93 from end out h.nearest) closes
    ∙ ap (λ rest. Some (part out from end, rest)) (drop-drop (end - from + 2) from out ∙ ap (λ k. drop k out) past)

length-part : (out : List MarkedByte) (from end : ℕ) → IsNearestLabelEnd (seen out) from end → length (part out from end) ≡ end - from
length-part out from end h =
    let within = pair_within 93 (seen out) end refl h.closes in
    let room : end - from ≤ length (drop from out) =
    omega (arith, within, length-map out seen_byte, length-drop from out) in
    length-take-le (end - from) (drop from out) room

-- no opening stands in the label
no_opening_in : (out : List MarkedByte) (from end : ℕ) → IsNearestLabelEnd (seen out) from end → holds_plainly (91 ∷ 91 ∷ []) (part out from end) ≡ false
no_opening_in out from end h =
    let none : (k : ℕ) → k < length (part out from end) → pair_at 91 (seen (part out from end)) k ≡ false =
    λ k less. false_from_ne_true _ (λ here.
    let size = length-part out from end h in
    let short : k < end - from = omega (arith, less, size) in
    let inside = pair_at-take 91 (end - from) (seen (drop from out)) k refl (ap (λ (bytes : List ℕ). pair_at 91 bytes k) (take-map seen_byte (end - from) (drop from out)) ∙ here) in
    false≢true (sym (none_behind 91 from end out h.no_opening k short) ∙ inside)) in
    ap is_some (nearest_none 91 (part out from end) refl refl none)

label_is : (out : List MarkedByte) (from end : ℕ) → IsNearestLabelEnd (seen out) from end → is_label (part out from end) ≡ nat_le (end - from) most_label
label_is out from end h =
    ap (λ (b : Bool). not b && nat_le (length (part out from end)) most_label) (no_opening_in out from end h)
    ∙ ap (λ n. nat_le n most_label) (length-part out from end h)

-- a label that the nearest `]]` ends
labelled_nearest : (target out : List MarkedByte) (t end : ℕ) → slice_index (seen out) t ≡ 124 → IsNearestLabelEnd (seen out) (t + 1) end → labelled target (drop t out) ≡ labelled_if target (part out (t + 1) end, drop (end + 2) out)
labelled_nearest target out t end bar h =
    labelled_bar target out t bar ∙ ap (option_and_then (labelled_if target)) (nearest_label out (t + 1) end h)

labelled_is : (target out : List MarkedByte) (t end : ℕ) (fits : Bool) → slice_index (seen out) t ≡ 124 → IsNearestLabelEnd (seen out) (t + 1) end → nat_le (end - (t + 1)) most_label ≡ fits → labelled target (drop t out) ≡ (if fits then Some (record { target = target; label = Some (part out (t + 1) end); rest = drop (end + 2) out }) else None)
labelled_is target out t end fits bar h size =
    labelled_nearest target out t end bar h
    ∙ ap (λ (b : Bool). if b then Some (record { target = target; label = Some (part out (t + 1) end); rest = drop (end + 2) out }) else None) (label_is out (t + 1) end h ∙ size)

-- no label where there is no `]]`, or a `[[` is nearer
no_label : (target : List MarkedByte) (o : Option (List MarkedByte × List MarkedByte)) → HasOpening o → option_and_then (labelled_if target) o ≡ None
no_label target None h = refl
no_label target (Some found) h =
    ap (λ (b : Bool). if not b && nat_le (length found.0) most_label then Some (record { target = target; label = Some found.0; rest = found.1 }) else None) h

no_label_at : (out : List MarkedByte) (from : ℕ) → HasNoLabelEnd (seen out) from → HasOpening (split_at_nearest (plainly (93 ∷ 93 ∷ [])) (drop from out))
no_label_at out from (inl none) =
    let none_there : (k : ℕ) → k < length (drop from out) → pair_at 93 (seen (drop from out)) k ≡ false =
    λ k less. none_behind 93 from (length (seen out)) out none k (omega (arith, less, length-drop from out, length-map out seen_byte)) in
    subst HasOpening (sym (nearest_none 93 (drop from out) refl refl none_there)) tt
no_label_at out from (inr opened) =
    let q = opened.0 in
    let there : from + (q - from) ≡ q = omega (arith, opened.1) in
    let opens : pair_at 91 (seen (drop from out)) (q - from) ≡ true =
    pair_behind 91 from out (q - from) ∙ ap (pair_at 91 (seen out)) there ∙ opened.2 in
    opening_before (q - from) (drop from out) (none_behind 93 from q out opened.3) opens

labelled_none : (target out : List MarkedByte) (t : ℕ) → HasNoLabelEnd (seen out) (t + 1) → labelled target (drop t out) ≡ None
labelled_none target out t h = elim (cases_Bool (slice_index (seen out) t == 124)) [
  | inl bar ↦ labelled_bar target out t ((Decides-eqb _ 124).0 bar) ∙ no_label target _ (no_label_at out (t + 1) h)
  | inr other ↦ labelled_no_bar target out t (λ is. false≢true (sym other ∙ (Decides-eqb _ 124).1 is))
]

closed_by-none : (target behind : List MarkedByte) → bare target behind ≡ None → labelled target behind ≡ None → closed_by target behind ≡ None
closed_by-none target behind b l = ap (λ o. option_or o (labelled target behind)) b ∙ l

closed_by-label : (target behind : List MarkedByte) (c : Content) → bare target behind ≡ None → labelled target behind ≡ Some c → closed_by target behind ≡ Some c
closed_by-label target behind c b l = ap (λ o. option_or o (labelled target behind)) b ∙ l

closed_by-bare : (target behind : List MarkedByte) (c : Content) → bare target behind ≡ Some c → closed_by target behind ≡ Some c
closed_by-bare target behind c b = ap (λ o. option_or o (labelled target behind)) b

-- what closes the target, by the places
closed : (out : List MarkedByte) (from t : ℕ) (label_end : Option ℕ) → IsClosed (seen out) t label_end → closed_by (part out from t) (drop t out) ≡ Some (record { target = part out from t; label = option_map (part out (t + 1)) label_end; rest = drop (unwrap_or label_end t + 2) out })
closed out from t None h = closed_by-bare (part out from t) (drop t out) _ (bare_some (part out from t) out t h)
closed out from t (Some end) h =
    closed_by-label (part out from t) (drop t out) _ (bare_none (part out from t) out t h.0)
    (labelled_is (part out from t) out t end true h.1 h.2 (le-leb _ _ h.3))

-- brackets that are found hold the content with which the output begins at their place
pub content_found : (out : List MarkedByte) (s : ℕ) (b : Brackets) → IsBracketsAt (seen out) s b → content (drop s out) ≡ Some (content_in out b)
content_found out s b h =
    open_content out s h.opens
    ∙ ap (λ t. closed_by (part out (s + 2) t) (drop t out)) (sym h.target_end_is)
    ∙ closed out (s + 2) b.target_end b.label_end h.closes
    ∙ ap (λ n. Some (record { target = part out (n + 2) b.target_end; label = option_map (part out (b.target_end + 1)) b.label_end; rest = drop (end_of b) out })) (sym h.start_is)

unclosed : (out : List MarkedByte) (s : ℕ) → pair_at 93 (seen out) (target_end_of (seen out) s) ≡ false → labelled (part out (s + 2) (target_end_of (seen out) s)) (drop (target_end_of (seen out) s) out) ≡ None → content (drop s out) ≡ None
unclosed out s h label = elim (cases_Bool (pair_at 91 (seen out) s)) [
  | inl opens ↦
      let t = target_end_of (seen out) s in
      open_content out s opens ∙ closed_by-none (part out (s + 2) t) (drop t out) (bare_none (part out (s + 2) t) out t h) label
  | inr other ↦ no_content out s other
]

long_none : (target out : List MarkedByte) (t end : ℕ) → IsNearestLabelEnd (seen out) (t + 1) end → most_label < end - (t + 1) → labelled target (drop t out) ≡ None
long_none target out t end h long = elim (cases_Bool (slice_index (seen out) t == 124)) [
  | inl bar ↦ labelled_is target out t end false ((Decides-eqb _ 124).0 bar) h (lt-leb_false (end - (t + 1)) long)
  | inr other ↦ labelled_no_bar target out t (λ is. false≢true (sym other ∙ (Decides-eqb _ 124).1 is))
]
  where
    lt-leb_false : (n : ℕ) → most_label < n → nat_le n most_label ≡ false
    lt-leb_false n h = grind (arith, nat_tests)

-- and else it begins with none
pub content_none : (out : List MarkedByte) (s : ℕ) → HasNoBrackets (seen out) s → content (drop s out) ≡ None
content_none out s (no_opening h) = no_content out s h
content_none out s (no_bar h bar) = unclosed out s h (labelled_no_bar _ out (target_end_of (seen out) s) bar)
content_none out s (no_label_end h none) = unclosed out s h (labelled_none _ out (target_end_of (seen out) s) none)
content_none out s (long_label end h nearest long) = unclosed out s h (long_none _ out (target_end_of (seen out) s) end nearest long)
