-- How answers are kept by what they answer.
use Rattle.std.specs.Prelude.{List, map}
use Rattle.wk_view_rules.specs.Worlds.{Read}
use Rattle.wk_expand.specs.Answers.{answer_of, read_with}
use Rattle.wk_expand.specs.declared.answer.Answer.{Answer}
use Rattle.wk_expand.specs.declared.seen.Asked.{Asked}

abbrev pub entry_read : Asked × Answer → Read
entry_read e = read_with e.0.title e.0.kind (answer_of e.1)

abbrev pub entry_reads : List (Asked × Answer) → List Read
entry_reads entries = map entry_read entries
