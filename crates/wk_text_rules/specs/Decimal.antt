-- Decimal numbers as requests and script lines write them (own: no sign, no leading zero, below 2 ^ 64).
use Rattle.std.specs.Prelude.{ℕ, ◌+◌, ◌-◌, ◌*◌, ◌^◌, Bool, false, ◌&&◌, ◌==◌, not, nat_lt, List, [], ◌∷◌, Option, Some, None, fold, if◌then◌else◌}
use Rattle.std.specs.List.{list_all}
use Rattle.std.specs.Char.{is_ascii_digit}

-- one digit, or several of which the first isn't zero
abbrev pub is_decimal : List ℕ → Bool
is_decimal [] = false
is_decimal (d ∷ []) = is_ascii_digit d
is_decimal (d ∷ e ∷ ds) = not (d == 48) && list_all is_ascii_digit (d ∷ e ∷ ds)

-- the number that digits stand for: each digit is worth ten times the one behind it
abbrev pub digits_value : List ℕ → ℕ
digits_value digits = fold (λ n d. 10 * n + (d - 48)) 0 digits

-- the number that the bytes write, where it is one below 2 ^ 64
unfoldable pub decimal_number : List ℕ → Option ℕ
decimal_number bytes =
    if is_decimal bytes && nat_lt (digits_value bytes) (2 ^ 64) then Some (digits_value bytes) else None
