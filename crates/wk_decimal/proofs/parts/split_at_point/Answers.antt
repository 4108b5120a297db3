use Rattle.wk_text_rules.specs.Numerals.{is_point}
use Rattle.wk_decimal.proofs.PartLemmas.{position_is_place, splits_at_first}
use Rattle.wk_decimal.proofs.parts.split_at_point.Goals as goal

pub split_at-requires : goal.split_at-requires
split_at-requires c = rw c.first_point.ensures (position_is_place is_point c.args.mantissa.now)

pub returns-clause-front : goal.returns-clause-front
returns-clause-front c =
    (splits_at_first is_point c.args.mantissa.now _ _ (rw c.first_point.ensures at c.split_at.ensures)).0

pub returns-clause-back : goal.returns-clause-back
returns-clause-back c =
    (splits_at_first is_point c.args.mantissa.now _ _ (rw c.first_point.ensures at c.split_at.ensures)).1
