-- Words of an output in plain bytes, and the same words in the bytes that are seen of it.
use Rattle.std.proofs.Common.{◌≡◌, ℕ, zero, suc, ◌+◌, ◌<◌, ◌≤◌, Bool, true, false, ◌==◌, ◌&&◌, List, [], ◌∷◌, length, get_or, take, drop, refl, sym, ap, subst, ◌∙◌, inl, inr, arith}
use Rattle.std.specs.Prelude.{Option, Some, None, option_map, is_some, if◌then◌else◌, slice_index}
use Rattle.std.specs.List.{prefix_len}
use Rattle.std.proofs.lemmas.Bool.{cases_Bool, cases_lt, false≢true}
use Rattle.std.proofs.lemmas.Bool.Decides.{same_from_decides, Decides-eqb}
use Rattle.std.proofs.lemmas.List.{get_or-drop, get_or_past, get_or-take, length-take}
use Rattle.wk_text_rules.specs.Marked.{MarkedByte, plain, sealed, marked_eq, plainly, holds_plainly}
use Rattle.wk_text_rules.specs.Occurrences.{is_plain_target}
use Rattle.wk_text_rules.specs.Shapes.{split_at_nearest}
use Rattle.wk_links.specs.Pairs.{pair_at}
use Rattle.wk_links.specs.Seen.{seen_byte, seen}
use Rattle.wk_text_rules.specs.Targets.{is_target_byte}

eq_comm : (a b : ℕ) → (a == b) ≡ (b == a)
eq_comm a b = same_from_decides {P = a ≡ b} _ _ (Decides-eqb a b) (λ t. sym ((Decides-eqb b a).0 t), λ e. (Decides-eqb b a).1 (sym e))

-- a byte that isn't the newline is there plainly exactly where it is seen
marked_is : (b : ℕ) (m : MarkedByte) → (10 == b) ≡ false → marked_eq (plain b) m ≡ (seen_byte m == b)
marked_is b (plain c) h = eq_comm b c
marked_is b (sealed c) h = sym h

-- the byte with which an output begins
pub one_plainly : (b : ℕ) (out : List MarkedByte) → (10 == b) ≡ false → (0 == b) ≡ false → plainly (b ∷ []) out ≡ (if slice_index (seen out) 0 == b then Some (drop 1 out) else None)
one_plainly b [] h z = rw z refl
one_plainly b (m ∷ out) h z = rw (marked_is b m h) (elim (cases_Bool (seen_byte m == b)) [ inl is ↦ rw is refl | inr other ↦ rw other refl ])

-- two equal bytes with which an output begins
pub two_plainly : (b : ℕ) (out : List MarkedByte) → (10 == b) ≡ false → (0 == b) ≡ false → plainly (b ∷ b ∷ []) out ≡ (if pair_at b (seen out) 0 then Some (drop 2 out) else None)
two_plainly b [] h z = rw z refl
two_plainly b (m ∷ []) h z =
    rw (marked_is b m h) (elim (cases_Bool (seen_byte m == b)) [ inl is ↦ rw (is, z) refl | inr other ↦ rw other refl ])
two_plainly b (m ∷ n ∷ out) h z =
    rw (marked_is b m h, marked_is b n h) (elim (cases_Bool (seen_byte m == b)) [
      | inl is ↦ rw is (elim (cases_Bool (seen_byte n == b)) [ inl is_too ↦ rw is_too refl | inr other ↦ rw other refl ])
      | inr other ↦ rw other refl
    ])

seen_target : (m : MarkedByte) → is_plain_target m ≡ is_target_byte (seen_byte m)
seen_target (plain b) = refl
seen_target (sealed b) = refl

-- a target is as long as it is seen
pub prefix_len-seen : (out : List MarkedByte) → prefix_len is_plain_target out ≡ prefix_len is_target_byte (seen out)
prefix_len-seen [] = refl
prefix_len-seen (m ∷ out) = rw (seen_target m, prefix_len-seen out) refl

-- ---- pairs of bytes in a part of a list

pub pair_at-drop : (b n : ℕ) (bytes : List ℕ) (k : ℕ) → pair_at b (drop n bytes) k ≡ pair_at b bytes (n + k)
pair_at-drop b n bytes k =
    let next : n + (k + 1) ≡ n + k + 1 = omega arith in
    rw (get_or-drop n bytes k 0, get_or-drop n bytes (k + 1) 0, next) refl

pair_at-suc : (b d : ℕ) (bytes : List ℕ) (k : ℕ) → pair_at b (d ∷ bytes) (suc k) ≡ pair_at b bytes k
pair_at-suc b d bytes k = let next : suc k + 1 ≡ suc (k + 1) = omega arith in rw next refl

pub both_true : (b c : Bool) → (b && c) ≡ true → (b ≡ true) × (c ≡ true)
both_true true c h = (refl, h)
both_true false c h = absurd (false≢true h)

-- two bytes are within the list
pub pair_within : (b : ℕ) (bytes : List ℕ) (k : ℕ) → (0 == b) ≡ false → pair_at b bytes k ≡ true → k + 2 ≤ length bytes
pair_within b bytes k z h = elim (cases_lt (k + 1) (length bytes)) [
  | inl within ↦ omega arith
  | inr past ↦
      let second = (both_true (get_or bytes k 0 == b) (get_or bytes (k + 1) 0 == b) h).1 in
      let nothing : get_or bytes (k + 1) 0 ≡ 0 = get_or_past bytes (k + 1) 0 past in
      absurd (false≢true (sym z ∙ (rw nothing at second)))
]

pub pair_at-take : (b c : ℕ) (bytes : List ℕ) (k : ℕ) → (0 == b) ≡ false → pair_at b (take c bytes) k ≡ true → pair_at b bytes k ≡ true
pair_at-take b c bytes k z h =
    let within = pair_within b (take c bytes) k z h in
    let first : k < c = omega (arith, length-take c bytes) in
    let second : k + 1 < c = omega (arith, length-take c bytes) in
    let at_first = get_or-take c bytes k 0 first in
    let at_second = get_or-take c bytes (k + 1) 0 second in
    rw (at_first, at_second) at h

-- ---- the nearest pair

pub plainly_here : (b : ℕ) (out : List MarkedByte) → (10 == b) ≡ false → (0 == b) ≡ false → pair_at b (seen out) 0 ≡ true → plainly (b ∷ b ∷ []) out ≡ Some (drop 2 out)
plainly_here b out h z here =
    two_plainly b out h z ∙ ap (λ (c : Bool). if c then Some (drop 2 out) else None) here

pub plainly_not : (b : ℕ) (out : List MarkedByte) → (10 == b) ≡ false → (0 == b) ≡ false → pair_at b (seen out) 0 ≡ false → plainly (b ∷ b ∷ []) out ≡ None
plainly_not b out h z not_here =
    two_plainly b out h z ∙ ap (λ (c : Bool). if c then Some (drop 2 out) else None) not_here

abbrev Split : Type 0
Split = Option (List MarkedByte × List MarkedByte)

-- how an output is split by whether the shape fits at its front
abbrev nearest_step : MarkedByte → Option (List MarkedByte) → Split → Split
nearest_step m None later = option_map (λ found. (m ∷ found.0, found.1)) later
nearest_step m (Some rest) later = Some ([], rest)

split_by_step : (shape : List MarkedByte → Option (List MarkedByte)) (m : MarkedByte) (out : List MarkedByte) → split_at_nearest shape (m ∷ out) ≡ nearest_step m (shape (m ∷ out)) (split_at_nearest shape out)
unfolding split_at_nearest
split_by_step shape m out =
    elim (shape (m ∷ out)) as (λ o. elim o as (λ _. Split) [ Some rest ↦ Some ([], rest) | None ↦ option_map (λ found. (m ∷ found.0, found.1)) (split_at_nearest shape out) ] ≡ nearest_step m o (split_at_nearest shape out)) [
      | None ↦ refl
      | Some rest ↦ refl
    ]

split_here : (b : ℕ) (m : MarkedByte) (out : List MarkedByte) → (10 == b) ≡ false → (0 == b) ≡ false → pair_at b (seen (m ∷ out)) 0 ≡ true → split_at_nearest (plainly (b ∷ b ∷ [])) (m ∷ out) ≡ Some ([], drop 2 (m ∷ out))
split_here b m out h z here =
    split_by_step (plainly (b ∷ b ∷ [])) m out ∙ ap (λ o. nearest_step m o (split_at_nearest (plainly (b ∷ b ∷ [])) out)) (plainly_here b (m ∷ out) h z here)

further : (b : ℕ) (m : MarkedByte) (out : List MarkedByte) → (10 == b) ≡ false → (0 == b) ≡ false → pair_at b (seen (m ∷ out)) 0 ≡ false → split_at_nearest (plainly (b ∷ b ∷ [])) (m ∷ out) ≡ option_map (λ found. (m ∷ found.0, found.1)) (split_at_nearest (plainly (b ∷ b ∷ [])) out)
further b m out h z not_here =
    split_by_step (plainly (b ∷ b ∷ [])) m out ∙ ap (λ o. nearest_step m o (split_at_nearest (plainly (b ∷ b ∷ [])) out)) (plainly_not b (m ∷ out) h z not_here)

none_in_rest : (b c : ℕ) (m : MarkedByte) (out : List MarkedByte) → ((k : ℕ) → k < suc c → pair_at b (seen (m ∷ out)) k ≡ false) → (k : ℕ) → k < c → pair_at b (seen out) k ≡ false
none_in_rest b c m out none k less =
    sym (pair_at-suc b (seen_byte m) (seen out) k) ∙ none (suc k) (omega arith)

-- where the first pair stands, an output is split there
pub nearest_at : (b c : ℕ) (out : List MarkedByte) → (10 == b) ≡ false → (0 == b) ≡ false → ((k : ℕ) → k < c → pair_at b (seen out) k ≡ false) → pair_at b (seen out) c ≡ true → split_at_nearest (plainly (b ∷ b ∷ [])) out ≡ Some (take c out, drop (c + 2) out)
nearest_at b zero [] h z none here = absurd (omega (arith, pair_within b [] 0 z here))
nearest_at b zero (m ∷ out) h z none here = split_here b m out h z here
nearest_at b (suc c) [] h z none here = absurd (omega (arith, pair_within b [] (suc c) z here))
nearest_at b (suc c) (m ∷ out) h z none here =
    let later = nearest_at b c out h z (none_in_rest b c m out none) (sym (pair_at-suc b (seen_byte m) (seen out) c) ∙ here) in
    let next : suc (c + 2) ≡ suc c + 2 = omega arith in
    further b m out h z (none 0 (omega arith))
    ∙ ap (λ (o : Split). option_map (λ found. (m ∷ found.0, found.1)) o) later
    ∙ ap (λ k. Some (m ∷ take c out, drop k (m ∷ out))) next

no_split : (b : ℕ) → split_at_nearest (plainly (b ∷ b ∷ [])) [] ≡ None
unfolding split_at_nearest
no_split b = refl

-- where there is none, an output isn't split
pub nearest_none : (b : ℕ) (out : List MarkedByte) → (10 == b) ≡ false → (0 == b) ≡ false → ((k : ℕ) → k < length out → pair_at b (seen out) k ≡ false) → split_at_nearest (plainly (b ∷ b ∷ [])) out ≡ None
nearest_none b [] h z none = no_split b
nearest_none b (m ∷ out) h z none =
    further b m out h z (none 0 (omega arith))
    ∙ ap (λ (o : Split). option_map (λ found. (m ∷ found.0, found.1)) o) (nearest_none b out h z (none_in_rest b (length out) m out none))

is_some-option_map : {A B : Type 0} (f : A → B) (o : Option A) → is_some (option_map f o) ≡ is_some o
is_some-option_map f None = refl
is_some-option_map f (Some x) = refl

-- a pair that stands in an output stands in a longer one
holds_more : (m : MarkedByte) (out : List MarkedByte) → holds_plainly (91 ∷ 91 ∷ []) out ≡ true → holds_plainly (91 ∷ 91 ∷ []) (m ∷ out) ≡ true
holds_more m out h = elim (cases_Bool (pair_at 91 (seen (m ∷ out)) 0)) [
  | inl here ↦ ap is_some (split_here 91 m out refl refl here)
  | inr behind ↦
      ap is_some (further 91 m out refl refl behind) ∙ is_some-option_map (λ (found : List MarkedByte × List MarkedByte). (m ∷ found.0, found.1)) (split_at_nearest (plainly (91 ∷ 91 ∷ [])) out) ∙ h
]

-- what stands before the nearest closing, if there is one, has an opening in it
abbrev pub HasOpening : Option (List MarkedByte × List MarkedByte) → Type 0
HasOpening None = Unit {0}
HasOpening (Some found) = holds_plainly (91 ∷ 91 ∷ []) found.0 ≡ true

opening_more : (m : MarkedByte) (o : Split) → HasOpening o → HasOpening (option_map (λ found. (m ∷ found.0, found.1)) o)
opening_more m None h = tt
opening_more m (Some found) h = holds_more m found.0 h

opening_first : (m n : MarkedByte) (o : Split) → pair_at 91 (seen_byte m ∷ seen_byte n ∷ []) 0 ≡ true → HasOpening (option_map (λ (found : List MarkedByte × List MarkedByte). (m ∷ found.0, found.1)) (option_map (λ (found : List MarkedByte × List MarkedByte). (n ∷ found.0, found.1)) o))
opening_first m n None h = tt
opening_first m n (Some found) h = ap is_some (split_here 91 m (n ∷ found.0) refl refl h)

-- an opening that is nearer than the nearest closing stands in what is before that
pub opening_before : (q : ℕ) (out : List MarkedByte) → ((k : ℕ) → k < q → pair_at 93 (seen out) k ≡ false) → pair_at 91 (seen out) q ≡ true → HasOpening (split_at_nearest (plainly (93 ∷ 93 ∷ [])) out)
opening_before zero [] none here = absurd (omega (arith, pair_within 91 [] 0 refl here))
opening_before zero (m ∷ []) none here = absurd (omega (arith, pair_within 91 (seen_byte m ∷ []) 0 refl here))
opening_before zero (m ∷ n ∷ out) none here =
    let two = both_true (seen_byte m == 91) (seen_byte n == 91) here in
    let first : seen_byte m ≡ 91 = (Decides-eqb (seen_byte m) 91).0 two.0 in
    let second : seen_byte n ≡ 91 = (Decides-eqb (seen_byte n) 91).0 two.1 in
    let not_first : pair_at 93 (seen (m ∷ n ∷ out)) 0 ≡ false = rw first refl in
    let not_second : pair_at 93 (seen (n ∷ out)) 0 ≡ false = rw second refl in
    let both = further 93 m (n ∷ out) refl refl not_first ∙ ap (λ (o : Split). option_map (λ found. (m ∷ found.0, found.1)) o) (further 93 n out refl refl not_second) in
    subst HasOpening (sym both) (opening_first m n (split_at_nearest (plainly (93 ∷ 93 ∷ [])) out) here)
opening_before (suc q) [] none here = absurd (omega (arith, pair_within 91 [] (suc q) refl here))
opening_before (suc q) (m ∷ out) none here =
    let later = opening_before q out (none_in_rest 93 q m out none) (sym (pair_at-suc 91 (seen_byte m) (seen out) q) ∙ here) in
    subst HasOpening (sym (further 93 m out refl refl (none 0 (omega arith)))) (opening_more m (split_at_nearest (plainly (93 ∷ 93 ∷ [])) out) later)
