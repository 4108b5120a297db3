-- The values of a line, as the program has them (own).
use Rattle.serde_json.specs.Data.{Data, null, string}
use Rattle.wk_answer_rules.specs.Values.{integer, whole}
use Rattle.wk_feeder.specs.declared.lines.Cell.{Cell}
use Rattle.wk_feeder.specs.declared.lines.Cell.TheVariants.{Text, Whole, Integer, Null}

abbrev pub data_of : Cell → Data
data_of (Text text) = string text.now
data_of (Whole n) = whole n
data_of (Integer n) = integer n
data_of Null = null
