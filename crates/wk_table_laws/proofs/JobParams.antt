-- The params of a fan job are read back as they were written.
use Rattle.std.proofs.Common.{◌≡◌, ℕ, ◌+◌, ◌-◌, ◌*◌, ◌/◌, ◌%◌, ◌^◌, ◌<◌, ◌≤◌, Bool, true, false, eqb, not, List, [], ◌∷◌, ◌++◌, Some, refl, ap, ◌∙◌, arith}
use Rattle.std.specs.Char.{is_ascii_digit}
use Rattle.std.specs.Fmt.{decimal}
use Rattle.std.specs.List.{list_all}
use Rattle.std.proofs.lemmas.Bool.{and_parts, and_from, lt-ltb, ne_eqb}
use Rattle.std.proofs.lemmas.Fmt.{decimal_by_steps}
use Rattle.std.proofs.lemmas.List.Sums.{fold-append}
use Rattle.wk_text_rules.specs.Decimal.{decimal_number, digits_value, is_decimal}
use Rattle.wk_page_rules.specs.declared.Reach.{Reach}
use Rattle.wk_page_rules.specs.declared.Reach.TheVariants.{Text, Both}
use Rattle.wk_table_rules.specs.JobTable.{FanParams, fan_params, params_text}

-- the first digit isn't zero
abbrev is_led : List ℕ → Bool
is_led [] = false
is_led (d ∷ ds) = not (eqb d 48)

is_decimal-led : (ds : List ℕ) → is_led ds ≡ true → list_all is_ascii_digit ds ≡ true → is_decimal ds ≡ true
is_decimal-led [] led digits = led
is_decimal-led (d ∷ []) led digits = (and_parts (is_ascii_digit d) true digits).0
is_decimal-led (d ∷ e ∷ ds) led digits = and_from (not (eqb d 48)) (list_all is_ascii_digit (d ∷ e ∷ ds)) led digits

is_led-append : (ds es : List ℕ) → is_led ds ≡ true → is_led (ds ++ es) ≡ true
is_led-append [] es led = absurd (let e : false ≡ true = led in cc)
is_led-append (d ∷ ds) es led = led

list_all-push : (p : ℕ → Bool) (xs : List ℕ) (y : ℕ) → list_all p xs ≡ true → p y ≡ true → list_all p (xs ++ y ∷ []) ≡ true
list_all-push p [] y all last = and_from (p y) true last refl
list_all-push p (x ∷ xs) y all last =
    let parts = and_parts (p x) (list_all p xs) all in and_from (p x) (list_all p (xs ++ y ∷ [])) parts.0 (list_all-push p xs y parts.1 last)

is_digit : (n : ℕ) → n < 10 → is_ascii_digit (48 + n) ≡ true
is_digit n small = grind arith

-- digits that write a number
record Writes (n : ℕ) (ds : List ℕ) : Type 0 where
  digits : list_all is_ascii_digit ds ≡ true
  value : digits_value ds ≡ n
  legal : is_decimal ds ≡ true
  led : 0 < n → is_led ds ≡ true

writes-one : (n : ℕ) → n < 10 → Writes n ((48 + n) ∷ [])
writes-one n small = record {
  digits = and_from (is_ascii_digit (48 + n)) true (is_digit n small) refl;
  value = omega arith;
  legal = is_digit n small;
  led = λ positive. ap not (ne_eqb (48 + n) 48 (λ zero. omega arith));
}

writes-more : (n : ℕ) (ds : List ℕ) → 10 ≤ n → Writes (n / 10) ds → Writes n (ds ++ ((48 + n % 10) ∷ []))
writes-more n ds large front =
    let digit : is_ascii_digit (48 + n % 10) ≡ true = is_digit (n % 10) (omega arith) in
    let digits = list_all-push is_ascii_digit ds (48 + n % 10) front.digits digit in
    let led = is_led-append ds ((48 + n % 10) ∷ []) (front.led (omega arith)) in
    let value : digits_value (ds ++ ((48 + n % 10) ∷ [])) ≡ 10 * (n / 10) + ((48 + n % 10) - 48) =
    fold-append (λ m d. 10 * m + (d - 48)) 0 ds ((48 + n % 10) ∷ []) ∙ ap (λ m. 10 * m + ((48 + n % 10) - 48)) front.value in
    record {
      digits = digits;
      value = value ∙ omega arith;
      legal = is_decimal-led (ds ++ ((48 + n % 10) ∷ [])) led digits;
      led = λ positive. led;
    }

pub decimal_number-decimal : (n : ℕ) → n < 2 ^ 64 → decimal_number (decimal n) ≡ Some n
unfolding decimal_number
decimal_number-decimal n small =
    let written = decimal_by_steps Writes writes-one writes-more n small in
    rw (written.legal, written.value, lt-ltb n (2 ^ 64) small) refl

pub fan_params-params_text : (params : FanParams) → params.cursor < 2 ^ 64 → fan_params (params_text params) ≡ Some params
fan_params-params_text params small = go params.reach params.cursor small
  where
    go : (reach : Reach) (cursor : ℕ) → cursor < 2 ^ 64 → fan_params (params_text (record { reach = reach; cursor = cursor })) ≡ Some (record { reach = reach; cursor = cursor })
    go Text cursor small = rw (decimal_number-decimal cursor small) refl
    go Both cursor small = rw (decimal_number-decimal cursor small) refl
