-- What the digits of a number give, one digit after the other.
use Rattle.std.proofs.Math.Bool.{and-true}
use Rattle.std.proofs.lemmas.List.Sums.{fold_more, fold-append}
use Rattle.std.proofs.lemmas.Bool.Decides.{nat_tests}
use Rattle.std.specs.Option.{SomeIff}
use Rattle.std.proofs.Common.{Option, Some, None, true, take-append-drop, sym, ap, ◌++◌, ◌≡◌, ℕ, ◌+◌, ◌-◌, ◌*◌, ◌^◌, ◌<◌, ◌≤◌, ◌&&◌, not, nat_eq, List, [], ◌∷◌, length, get_or, take, drop, refl, arith}
use Rattle.std.specs.Prelude.{fold}
use Rattle.std.specs.List.{list_all}
use Rattle.std.specs.Char.{is_ascii_digit}
use Rattle.wk_text_rules.specs.Decimal.{is_decimal, digits_value, decimal_number}

-- further digits only make the number larger
pub fold_grows : (n : ℕ) (ds : List ℕ) → n ≤ fold (λ n d. 10 * n + (d - 48)) n ds
fold_grows n [] = omega arith
fold_grows n (d ∷ ds) = omega (arith, fold_grows (10 * n + (d - 48)) ds)

-- one digit more
pub digits_value_more : (ds : List ℕ) (i : ℕ) → i < length ds → digits_value (take (i + 1) ds) ≡ 10 * digits_value (take i ds) + (get_or ds i 0 - 48)
digits_value_more ds i h = fold_more (λ n d. 10 * n + (d - 48)) 0 ds i 0 h

-- the digits so far are worth no more than all of them
pub digits_value-take : (ds : List ℕ) (i : ℕ) → digits_value (take i ds) ≤ digits_value ds
digits_value-take ds i =
    let e : digits_value (take i ds ++ drop i ds) ≡ fold (λ n d. 10 * n + (d - 48)) (digits_value (take i ds)) (drop i ds) =
    fold-append (λ n d. 10 * n + (d - 48)) 0 (take i ds) (drop i ds) in
    let same : digits_value (take i ds ++ drop i ds) ≡ digits_value ds = ap digits_value (take-append-drop i ds) in
    omega (arith, fold_grows (digits_value (take i ds)) (drop i ds), e, same)

pub is_decimal-one : (bytes : List ℕ) → length bytes ≡ 1 → is_decimal bytes ≡ list_all is_ascii_digit bytes
is_decimal-one [] e = absurd (omega arith)
is_decimal-one (d ∷ []) e = sym (and-true (is_ascii_digit d))
is_decimal-one (d ∷ f ∷ ds) e = absurd (omega arith)

pub is_decimal-long : (bytes : List ℕ) → 2 ≤ length bytes → is_decimal bytes ≡ (not (nat_eq (get_or bytes 0 0) 48) && list_all is_ascii_digit bytes)
is_decimal-long [] h = absurd (omega arith)
is_decimal-long (d ∷ []) h = absurd (omega arith)
is_decimal-long (d ∷ e ∷ ds) h = refl

-- the value of digits, where it is below 2 ^ 64, is the number
pub decimal_number-digits : (bytes : List ℕ) (r : Option ℕ) → is_decimal bytes ≡ true → SomeIff r (digits_value bytes < 2 ^ 64) (digits_value bytes) → r ≡ decimal_number bytes
unfolding decimal_number
decimal_number-digits bytes None e h = rw e (grind (arith, nat_tests, h))
decimal_number-digits bytes (Some x) e h = rw e (grind (arith, nat_tests, h))
