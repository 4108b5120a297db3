-- The params of a fan job are written back as they were read.
use Rattle.std.proofs.Common.{◌≡◌, ℕ, ◌+◌, ◌-◌, ◌*◌, ◌^◌, ◌<◌, true, eqb, ltb, not, ◌&&◌, List, [], ◌∷◌, ◌++◌, length, get_or, drop, fold, zero, suc, ◌≤◌, Option, Some, None, refl, sym, ap, ap₂, ◌∙◌, inl, inr, arith, rules}
use Rattle.std.specs.Prelude.{bytes_eq, option_map, option_and_then}
use Rattle.std.specs.Char.{is_ascii_digit}
use Rattle.std.specs.Fmt.{decimal}
use Rattle.std.specs.List.{after_first, before_first, list_all, position_or_len}
use Rattle.std.proofs.lemmas.Bool.{cases_Bool, and_parts, and_from, not-true, both_ways, eq-eqb, eqb-true, ltb-true, ltb-false, false≢true}
use Rattle.std.proofs.lemmas.Fmt.{decimal-digits_value}
use Rattle.std.proofs.lemmas.List.Sums.{passes_at_first, split_at_first}
use Rattle.std.proofs.lemmas.Slice.Eq.{bytes_eq-Decides}
use Rattle.std.proofs.lemmas.Str.Parse.{IsNumeralModel, numerals_by_fold}
use Rattle.wk_text_rules.specs.Decimal.{decimal_number, digits_value, is_decimal}
use Rattle.wk_text_rules.specs.Titles.{is_colon}
use Rattle.wk_page_rules.specs.declared.Reach.{Reach}
use Rattle.wk_page_rules.specs.declared.Reach.TheVariants.{Text, Both}
use Rattle.wk_table_rules.specs.JobTable.{FanParams, fan_params, params_text, reach_called, reach_word}

-- ---- numbers

abbrev AllDigits : List ℕ → Type 0
AllDigits ds = list_all is_ascii_digit ds ≡ true

read_on : ℕ → List ℕ → ℕ
read_on n ds = fold (λ m d. 10 * m + (d - 48)) n ds

own : IsNumeralModel (λ ds. list_all is_ascii_digit ds ≡ true) (read_on 0)
unfolding read_on
own = numerals_by_fold (λ ds. list_all is_ascii_digit ds ≡ true) (search rules) read_on (search rules)

-- a decimal number is digits, with no leading zero
legal-digits : (ds : List ℕ) → is_decimal ds ≡ true → AllDigits ds × (0 < length ds) × (get_or ds 0 0 ≡ 48 → length ds ≡ 1)
legal-digits [] legal = absurd (false≢true legal)
legal-digits (d ∷ []) legal = (and_from (is_ascii_digit d) true legal refl, omega arith, λ first. refl)
legal-digits (d ∷ e ∷ ds) legal =
    let parts = and_parts (not (eqb d 48)) (list_all is_ascii_digit (d ∷ e ∷ ds)) legal in
    (parts.1, omega arith, λ first. absurd (both_ways (eqb d 48) (not-true (eqb d 48) parts.0) (eq-eqb d 48 first)))

decimal-back : (ds : List ℕ) (n : ℕ) → decimal_number ds ≡ Some n → decimal n ≡ ds
unfolding decimal_number read_on
decimal-back ds n is = elim (cases_Bool (is_decimal ds && ltb (digits_value ds) (2 ^ 64))) [
  | inl legal ↦
      let e : Some (digits_value ds) ≡ Some n = rw legal at is in
      let value : digits_value ds ≡ n = cc in
      let parts = and_parts (is_decimal ds) (ltb (digits_value ds) (2 ^ 64)) legal in
      let written = legal-digits ds parts.0 in
      ap decimal (sym value) ∙ decimal-digits_value own ds written.0 written.1 written.2 (ltb-true (digits_value ds) (2 ^ 64) parts.1)
  | inr wrong ↦ absurd (let e : None ≡ Some n = rw wrong at is in cc)
]

-- ---- reaches

reach-back : (word : List ℕ) (reach : Reach) → reach_called word ≡ Some reach → reach_word reach ≡ word
reach-back word reach is = elim (cases_Bool (bytes_eq word (reach_word Text))) [
  | inl text ↦
      let e : Some Text ≡ Some reach = rw text at is in
      let same : Text ≡ reach = cc in
      ap reach_word (sym same) ∙ sym ((bytes_eq-Decides word (reach_word Text)).0 text)
  | inr other ↦ elim (cases_Bool (bytes_eq word (reach_word Both))) [
    | inl both ↦
        let e : Some Both ≡ Some reach = rw (other, both) at is in
        let same : Both ≡ reach = cc in
        ap reach_word (sym same) ∙ sym ((bytes_eq-Decides word (reach_word Both)).0 both)
    | inr none ↦ absurd (let e : None ≡ Some reach = rw (other, none) at is in cc)
  ]
]

-- ---- params

is-colon : (c : ℕ) → is_colon c ≡ true → c ≡ 58
is-colon c is = eqb-true c 58 is

past-drop : {X : Type 0} (xs : List X) (n : ℕ) → length xs ≤ n → drop n xs ≡ []
past-drop [] zero past = refl
past-drop [] (suc n) past = refl
past-drop (x ∷ xs) zero past = absurd (omega (arith, past))
past-drop (x ∷ xs) (suc n) past = past-drop xs n (omega (arith, past))

no-number : (n : ℕ) → decimal_number [] ≡ Some n → ⊥
unfolding decimal_number
no-number n wrong = let e : None ≡ Some n = wrong in cc

pub params-back : (text : List ℕ) (params : FanParams) → fan_params text ≡ Some params → params_text params ≡ text
params-back text params is = by (reach_called (before_first is_colon text)) (decimal_number (after_first is_colon text)) refl refl is
  where
    by : (asked : Option Reach) (served : Option ℕ) → reach_called (before_first is_colon text) ≡ asked → decimal_number (after_first is_colon text) ≡ served
        → option_and_then (λ (reach : Reach). option_map (λ (cursor : ℕ). let made : FanParams = record { reach = reach; cursor = cursor } in made) served) asked ≡ Some params → params_text params ≡ text
    by None served asked_is served_is none = absurd (let e : None ≡ Some params = none in cc)
    by (Some reach) None asked_is served_is none = absurd (let e : None ≡ Some params = none in cc)
    by (Some reach) (Some cursor) asked_is served_is made =
        let e : Some (let p : FanParams = record { reach = reach; cursor = cursor } in p) ≡ Some params = made in
        let same : (let p : FanParams = record { reach = reach; cursor = cursor } in p) ≡ params = cc in
        let word = reach-back (before_first is_colon text) reach asked_is in
        let number = decimal-back (after_first is_colon text) cursor served_is in
        elim (cases_Bool (ltb (position_or_len is_colon text) (length text))) [
          | inl within ↦
              let below = ltb-true (position_or_len is_colon text) (length text) within in
              let colon = is-colon (get_or text (position_or_len is_colon text) 0) (passes_at_first is_colon text 0 below) in
              ap params_text (sym same)
              ∙ (ap₂ (λ (w : List ℕ) (ds : List ℕ). w ++ 58 ∷ ds) word number
              ∙ (ap (λ c. before_first is_colon text ++ c ∷ after_first is_colon text) (sym colon) ∙ sym (split_at_first is_colon text 0 below)))
          | inr past ↦
              let up = ltb-false (position_or_len is_colon text) (length text) past in
              let none : after_first is_colon text ≡ [] = past-drop text (position_or_len is_colon text + 1) (omega (arith, up)) in
              absurd (let wrong : decimal_number [] ≡ Some cursor = ap decimal_number (sym none) ∙ served_is in no-number cursor wrong)
        ]
