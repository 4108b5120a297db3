-- The params of a fan job, read at their first colon.
use Rattle.std.proofs.Common.{◌≡◌, ℕ, ◌+◌, Bool, true, false, ◌&&◌, List, [], length, Option, Some, None, option_map, refl, sym, ap, ◌∙◌, inl, inr, arith}
use Rattle.std.specs.Prelude.{bytes_eq, codes, nat_le, option_and_then}
use Rattle.std.specs.List.{after_first, before_first, position_or_len}
use Rattle.std.proofs.lemmas.Bool.{cases_Bool}
use Rattle.std.proofs.lemmas.List.{drop_all}
use Rattle.wk_text_rules.specs.Decimal.{decimal_number}
use Rattle.wk_text_rules.specs.Titles.{is_colon}
use Rattle.wk_page_rules.specs.declared.Reach.{Reach}
use Rattle.wk_page_rules.specs.declared.Reach.TheVariants.{Text, Both}
use Rattle.wk_table_rules.specs.JobTable.{FanParams, reach_called}
use Rattle.wk_page_rules.specs.Verdict.{max_pages}
use Rattle.wk_table_rules.specs.GoodStore.{is_fan_params}
use Rattle.wk_good_rows.specs.Params.{is_cursor, is_low, is_reach}

-- the params are there, with a cursor that a page can have
abbrev is_within : Option FanParams → Bool
is_within fan = elim fan [ None ↦ false | Some params ↦ nat_le params.cursor max_pages ]

-- the params of a word and a number
abbrev params_of : Option Reach → Option ℕ → Option FanParams
params_of asked served = option_and_then (λ reach. option_map (λ cursor. record { reach = reach; cursor = cursor }) served) asked

no-number : (asked : Option Reach) (served : Option ℕ) → served ≡ None → is_within (params_of asked served) ≡ false
no-number None served none = refl
no-number (Some reach) served none = rw none refl

no-digits : decimal_number [] ≡ None
unfolding decimal_number
no-digits = refl

-- without a colon there are none
pub no-colon : (text : List ℕ) → position_or_len is_colon text ≡ length text → is_fan_params text ≡ false
no-colon text none =
    no-number (reach_called (before_first is_colon text)) (decimal_number (after_first is_colon text))
    (ap decimal_number (drop_all (position_or_len is_colon text + 1) text (omega arith)) ∙ no-digits)

some-reach : (reach : Reach) (served : Option ℕ) → is_within (params_of (Some reach) served) ≡ is_low served
some-reach reach None = refl
some-reach reach (Some cursor) = refl

-- what the word and the number say
both-parts : (word : List ℕ) (served : Option ℕ) → is_within (params_of (reach_called word) served) ≡ (is_reach word && is_low served)
both-parts word served = elim (cases_Bool (bytes_eq word (codes "text"))) [
  | inl first ↦
      let asked : reach_called word ≡ Some Text = rw first refl in
      let is : is_reach word ≡ true = rw first refl in
      ap (λ o. is_within (params_of o served)) asked ∙ some-reach Text served ∙ rw is refl
  | inr other ↦ elim (cases_Bool (bytes_eq word (codes "both"))) [
    | inl second ↦
        let asked : reach_called word ≡ Some Both = rw (other, second) refl in
        let is : is_reach word ≡ true = rw (other, second) refl in
        ap (λ o. is_within (params_of o served)) asked ∙ some-reach Both served ∙ rw is refl
    | inr neither ↦
        let asked : reach_called word ≡ None = rw (other, neither) refl in
        let is : is_reach word ≡ false = rw (other, neither) refl in
        ap (λ o. is_within (params_of o served)) asked ∙ rw is refl
  ]
]

-- the word before the first colon, and the number behind it
pub at-colon : (text word number : List ℕ) → word ≡ before_first is_colon text → number ≡ after_first is_colon text → (is_reach word && is_cursor number) ≡ is_fan_params text
at-colon text word number first second =
    rw (first, second) (sym (both-parts (before_first is_colon text) (decimal_number (after_first is_colon text))))
