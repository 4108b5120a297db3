use Rattle.std.proofs.Common.{arith, sym, ◌∙◌}
use Rattle.std.proofs.lemmas.Grind.{common_steps}
use Rattle.wk_text_rules.specs.Decimal.{decimal_number}
use Rattle.wk_bytes.proofs.Numbers.{decimal_number-digits}
use Rattle.wk_bytes.proofs.number.decimal.Goals as goal

pub returns-then-is_decimal : goal.returns-then-is_decimal
returns-then-is_decimal c =
    decimal_number-digits c.args.bytes.now c.digits_value.result (sym c.is_decimal.ensures ∙ c.if-is_decimal.true) c.digits_value.ensures

pub returns-else-is_decimal : goal.returns-else-is_decimal
unfolding decimal_number
returns-else-is_decimal c = grind (arith, common_steps)
