use Rattle.std.proofs.Common.{Some, None}
use Rattle.wk_words.proofs.RowLemmas.{text_is}
use Rattle.wk_words.proofs.reading.read_text.Goals as goal

pub returns-in-Some : goal.returns-in-Some
returns-in-Some c = text_is c.args.matches.now c.args.name.now c.args.default.now (Some c.in-Some.text.now) c.in-Some.ensures

pub returns-in-None : goal.returns-in-None
returns-in-None c = text_is c.args.matches.now c.args.name.now c.args.default.now None c.in-None.ensures
