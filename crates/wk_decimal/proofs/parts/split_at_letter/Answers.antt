use Rattle.wk_text_rules.specs.Numerals.{is_exponent_letter}
use Rattle.wk_decimal.proofs.PartLemmas.{position_is_place, splits_at_first}
use Rattle.wk_decimal.proofs.parts.split_at_letter.Goals as goal

pub split_at-requires : goal.split_at-requires
split_at-requires c = rw c.first_letter.ensures (position_is_place is_exponent_letter c.args.text.now)

pub returns-clause-front : goal.returns-clause-front
returns-clause-front c =
    (splits_at_first is_exponent_letter c.args.text.now _ _ (rw c.first_letter.ensures at c.split_at.ensures)).0

pub returns-clause-back : goal.returns-clause-back
returns-clause-back c =
    (splits_at_first is_exponent_letter c.args.text.now _ _ (rw c.first_letter.ensures at c.split_at.ensures)).1
