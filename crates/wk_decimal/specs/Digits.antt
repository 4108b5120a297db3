-- Decimal digits and the zeros in front of them (own).
use Rattle.std.specs.Prelude.{◌≡◌, ◌≢◌, ℕ, ◌==◌, Bool, true, List, drop, slice_get, Some}
use Rattle.std.specs.Char.{is_ascii_digit}
use Rattle.std.specs.List.{list_all, prefix_len}

abbrev pub is_zero : ℕ → Bool
is_zero d = d == 48

-- the digits behind the zeros in front
abbrev pub without_leading_zeros : List ℕ → List ℕ
without_leading_zeros digits = drop (prefix_len is_zero digits) digits

-- digits without zeros in front
pub record IsSignificant (digits : List ℕ) : Type 0 where
  pub all_digits : list_all is_ascii_digit digits ≡ true
  pub no_zero_first : slice_get digits 0 ≢ Some 48
