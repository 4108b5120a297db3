use Rattle.std.proofs.Common.{◌≡◌, ◌^◌, ◌<◌, take}
use Rattle.wk_text_rules.specs.Decimal.{digits_value}
use Rattle.wk_bytes.proofs.number.digits_value.Given as goal

abbrev pub invariant-loop-digit : goal.invariant-loop-digit
invariant-loop-digit l = (l.value < 2 ^ 64) × (l.value ≡ digits_value (take l.digit-index l.digits))
