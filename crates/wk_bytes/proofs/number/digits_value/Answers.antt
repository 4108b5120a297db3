use Rattle.std.proofs.Common.{◌≡◌, ◌+◌, ◌≤◌, length, take, take_all, ap, arith, ◌∙◌}
use Rattle.wk_text_rules.specs.Decimal.{digits_value}
use Rattle.wk_bytes.proofs.Numbers.{digits_value_more, digits_value-take}
use Rattle.wk_bytes.proofs.number.digits_value.Goals as goal

pub returns-in_default : goal.returns-in_default
returns-in_default c =
    λ h. omega (arith, c.in_default.ensures, digits_value_more c.args.digits.now c.loop-digit.digit-index (omega arith), digits_value-take c.args.digits.now (c.loop-digit.digit-index + 1))

pub returns : goal.returns
returns c =
    let end : length c.args.digits.now ≤ c.loop-digit.digit-index = omega arith in
    let all : digits_value (take c.loop-digit.digit-index c.args.digits.now) ≡ digits_value c.args.digits.now =
    ap digits_value (take_all c.loop-digit.digit-index c.args.digits.now end) in
    (omega arith, c.loop-digit.invariant.1 ∙ all)
