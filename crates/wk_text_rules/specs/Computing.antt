-- `unfolding computing` lets `refl` compute the rules of this crate on a text that is written out.
use Rattle.std.specs.Char.{encode_utf8}
use Rattle.std.specs.Str.{chars}
use Rattle.wk_text_rules.specs.Decimal.{decimal_number}
use Rattle.wk_text_rules.specs.Lines.{lines}
use Rattle.wk_text_rules.specs.Numerals.{numeral}
use Rattle.wk_text_rules.specs.Occurrences.{occurrences}
use Rattle.wk_text_rules.specs.Shapes.{split_at_nearest, repeated, spans_from}
use Rattle.wk_text_rules.specs.Titles.{normal, shown, to_nfc}

unfoldable pub computing : Unit {0}
unfolding chars encode_utf8 decimal_number lines numeral occurrences split_at_nearest repeated spans_from normal shown to_nfc
computing = tt
