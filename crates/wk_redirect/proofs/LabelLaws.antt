-- Labels without newline, a byte at a time.
use Rattle.std.proofs.Common.{◌≡◌, ℕ, suc, ◌+◌, ◌-◌, ◌<◌, ◌≤◌, Bool, true, false, ◌&&◌, ◌||◌, ◌==◌, not, List, [], ◌∷◌, length, get_or, take, drop, codes, Option, Some, None, option_map, option_and_then, refl, ap, ap₂, sym, subst, ◌∙◌, inl, inr, arith, if◌then◌else◌, take_all, drop-cons}
use Rattle.std.specs.Prelude.{is_some}
use Rattle.std.specs.List.{list_any, starts_with}
use Rattle.std.specs.Option.{IfSome}
use Rattle.std.proofs.lemmas.Bool.{cases_Bool, false≢true, false_from_ne_true}
use Rattle.std.proofs.lemmas.Bool.Decides.{Decides-eqb}
use Rattle.std.proofs.lemmas.List.{length-drop, drop_all}
use Rattle.wk_text_rules.specs.Shapes.{Shape, exactly, split_at_nearest, up_to, part_before, without_byte}

-- a label without newline up to the nearest closing brackets begins here
abbrev pub has_label : List ℕ → Bool
has_label text = is_some (without_byte 10 (up_to (exactly (codes "]]"))) text)

abbrev closing : Shape ℕ
closing = exactly (codes "]]")

abbrev pub closes : List ℕ → Bool
closes text = starts_with (λ a b. a == b) text (codes "]]")

abbrev Split : Type 0
Split = Option (List ℕ × List ℕ)

abbrev split_step : ℕ → List ℕ → Option (List ℕ) → Split → Split
split_step x xs (Some rest) later = Some ([], rest)
split_step x xs None later = option_map (λ found. (x ∷ found.0, found.1)) later

split_by_step : (shape : Shape ℕ) (x : ℕ) (xs : List ℕ) → split_at_nearest shape (x ∷ xs) ≡ split_step x xs (shape (x ∷ xs)) (split_at_nearest shape xs)
unfolding split_at_nearest
split_by_step shape x xs =
    elim (shape (x ∷ xs)) as (λ o. elim o as (λ _. Split) [ Some rest ↦ Some ([], rest) | None ↦ option_map (λ found. (x ∷ found.0, found.1)) (split_at_nearest shape xs) ] ≡ split_step x xs o (split_at_nearest shape xs)) [
      | None ↦ refl
      | Some rest ↦ refl
    ]

up_to-here : (x : ℕ) (xs : List ℕ) → closes (x ∷ xs) ≡ true → up_to closing (x ∷ xs) ≡ Some (drop 2 (x ∷ xs))
up_to-here x xs h =
    let here : closing (x ∷ xs) ≡ Some (drop 2 (x ∷ xs)) = ap (λ (t : Bool). if t then Some (drop 2 (x ∷ xs)) else None) h in
    ap (option_map (λ found. found.1)) (split_by_step closing x xs ∙ ap (λ o. split_step x xs o (split_at_nearest closing xs)) here)

same_rest : (x : ℕ) (o : Split) → option_map (λ (found : List ℕ × List ℕ). found.1) (option_map (λ (found : List ℕ × List ℕ). (x ∷ found.0, found.1)) o) ≡ option_map (λ (found : List ℕ × List ℕ). found.1) o
same_rest x None = refl
same_rest x (Some found) = refl

up_to-further : (x : ℕ) (xs : List ℕ) → closes (x ∷ xs) ≡ false → up_to closing (x ∷ xs) ≡ up_to closing xs
up_to-further x xs h =
    let none : closing (x ∷ xs) ≡ None = ap (λ (t : Bool). if t then Some (drop 2 (x ∷ xs)) else None) h in
    ap (option_map (λ found. found.1)) (split_by_step closing x xs ∙ ap (λ o. split_step x xs o (split_at_nearest closing xs)) none)
    ∙ same_rest x (split_at_nearest closing xs)

abbrev IsNotLonger : List ℕ → Option (List ℕ) → Type 0
IsNotLonger xs o = IfSome o (λ rest. length rest ≤ length xs)

longer_too : (x : ℕ) (xs : List ℕ) (o : Option (List ℕ)) → IsNotLonger xs o → IsNotLonger (x ∷ xs) o
longer_too x xs None h = tt
longer_too x xs (Some rest) h = omega arith

not_longer : (xs : List ℕ) → IsNotLonger xs (up_to closing xs)
unfolding split_at_nearest
not_longer [] = tt
not_longer (x ∷ xs) = elim (cases_Bool (closes (x ∷ xs))) [
  | inl here ↦ subst (IsNotLonger (x ∷ xs)) (sym (up_to-here x xs here)) (omega (arith, length-drop 2 (x ∷ xs)))
  | inr further ↦ subst (IsNotLonger (x ∷ xs)) (sym (up_to-further x xs further)) (longer_too x xs (up_to closing xs) (not_longer xs))
]

-- whether there is a label, by what follows the nearest closing brackets
abbrev label_by : List ℕ → Option (List ℕ) → Bool
label_by text o = is_some (option_and_then (λ rest. if not (list_any (λ b. b == 10) (part_before text rest)) then Some rest else None) o)

further_by : (x : ℕ) (xs : List ℕ) (o : Option (List ℕ)) → IsNotLonger xs o → (x == 10) ≡ false → label_by (x ∷ xs) o ≡ label_by xs o
further_by x xs None h other = refl
further_by x xs (Some rest) h other =
    let size : suc (length xs) - length rest ≡ suc (length xs - length rest) = omega arith in
    ap (λ k. is_some (if not (list_any (λ b. b == 10) (take k (x ∷ xs))) then Some rest else None)) size
    ∙ ap (λ (t : Bool). is_some (if not (t || list_any (λ b. b == 10) (take (length xs - length rest) xs)) then Some rest else None)) other

newline_by : (xs : List ℕ) (o : Option (List ℕ)) → IsNotLonger xs o → label_by (10 ∷ xs) o ≡ false
newline_by xs None h = refl
newline_by xs (Some rest) h =
    let size : suc (length xs) - length rest ≡ suc (length xs - length rest) = omega arith in
    ap (λ k. is_some (if not (list_any (λ b. b == 10) (take k (10 ∷ xs))) then Some rest else None)) size

pub and_false : (t : Bool) → (t && false) ≡ false
and_false true = refl
and_false false = refl

pub both : (s t : Bool) → (s && (t && true)) ≡ true → (s ≡ true) × (t ≡ true)
both true true h = (refl, refl)
both true false h = absurd (false≢true h)
both false t h = absurd (false≢true h)

has_label-here : (xs : List ℕ) → closes xs ≡ true → has_label xs ≡ true
unfolding split_at_nearest
has_label-here [] h = absurd (false≢true h)
has_label-here (x ∷ []) h = absurd (false≢true (sym (and_false (93 == x)) ∙ h))
has_label-here (x ∷ y ∷ ys) h =
    let first : x ≡ 93 = sym ((Decides-eqb 93 x).0 (both (93 == x) (93 == y) h).0) in
    let second : y ≡ 93 = sym ((Decides-eqb 93 y).0 (both (93 == x) (93 == y) h).1) in
    let size : suc (suc (length ys)) - length ys ≡ 2 = omega arith in
    ap (label_by (x ∷ y ∷ ys)) (up_to-here x (y ∷ ys) h)
    ∙ ap (λ k. is_some (if not (list_any (λ b. b == 10) (take k (x ∷ y ∷ ys))) then Some ys else None)) size
    ∙ ap₂ (λ a b. is_some (if not (a == 10 || (b == 10 || false)) then Some ys else None)) first second

has_label-newline : (xs : List ℕ) → has_label (10 ∷ xs) ≡ false
has_label-newline xs = ap (label_by (10 ∷ xs)) (up_to-further 10 xs refl) ∙ newline_by xs (up_to closing xs) (not_longer xs)

has_label-further : (x : ℕ) (xs : List ℕ) → closes (x ∷ xs) ≡ false → (x == 10) ≡ false → has_label (x ∷ xs) ≡ has_label xs
has_label-further x xs h other = ap (label_by (x ∷ xs)) (up_to-further x xs h) ∙ further_by x xs (up_to closing xs) (not_longer xs) other

has_label-none : has_label [] ≡ false
unfolding split_at_nearest
has_label-none = refl

-- ---- the search for the end of a label, from a place on

-- what the test reads at a place
abbrev pub closes_at : List ℕ → ℕ → Bool
closes_at text at = closes (take (length text - at) (drop at text))

pub rest_at : (text : List ℕ) (at : ℕ) → take (length text - at) (drop at text) ≡ drop at text
rest_at text at = take_all (length text - at) (drop at text) (omega (arith, length-drop at text))

module _ (text : List ℕ) (at : ℕ) (so_far : has_label (drop at text) ≡ has_label text) where
  pub label_found : closes_at text at ≡ true → true ≡ has_label text
  label_found h = sym (has_label-here (drop at text) (sym (ap closes (rest_at text at)) ∙ h)) ∙ so_far

  pub newline_found : at < length text → get_or text at 0 ≡ 10 → false ≡ has_label text
  newline_found within newline =
      sym (has_label-newline (drop (suc at) text)) ∙ ap (λ b. has_label (b ∷ drop (suc at) text)) (sym newline) ∙ ap has_label (sym (drop-cons text at 0 within)) ∙ so_far

  pub further_on : at < length text → closes_at text at ≡ false → (get_or text at 0 ≡ 10 → ⊥) → has_label (drop (at + 1) text) ≡ has_label text
  further_on within h other =
      let split = drop-cons text at 0 within in
      let open_here : closes (get_or text at 0 ∷ drop (suc at) text) ≡ false = ap closes (sym split ∙ sym (rest_at text at)) ∙ h in
      let next : at + 1 ≡ suc at = omega arith in
      ap (λ n. has_label (drop n text)) next
      ∙ sym (has_label-further (get_or text at 0) (drop (suc at) text) open_here (false_from_ne_true _ (λ is. other ((Decides-eqb _ 10).0 is))))
      ∙ ap has_label (sym split) ∙ so_far

  pub nothing_left : length text ≤ at → false ≡ has_label text
  nothing_left past = sym has_label-none ∙ ap has_label (sym (drop_all at text past)) ∙ so_far
