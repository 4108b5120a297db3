use Rattle.std.proofs.Common.{◌∙◌, ap, sym}
use Rattle.wk_text_rules.specs.Decimal.{decimal_number}
use Rattle.wk_words.specs.Answers.{option_of}
use Rattle.wk_words.proofs.RowLemmas.{default_is, given_is, given_within, none_given}
use Rattle.wk_words.proofs.reading.read_number.Goals as goal

pub returns-in_default-clause-ok : goal.returns-in_default-clause-ok
returns-in_default-clause-ok c = default_is c.args.matches.now (option_of c.args.option.now) (rw c.in_default.is at c.get_str.ensures)

pub returns-in-Some-decimal-clause-ok : goal.returns-in-Some-decimal-clause-ok
returns-in-Some-decimal-clause-ok c =
    given_is c.args.matches.now (option_of c.args.option.now) c.in-Some.value.now c.in-Some-decimal.number (rw c.in-Some.is at c.get_str.ensures)
    (sym c.in-Some-decimal.is ∙ c.decimal.ensures ∙ ap decimal_number c.as_bytes.ensures.value)

pub returns-in-Some-decimal-clause-within : goal.returns-in-Some-decimal-clause-within
returns-in-Some-decimal-clause-within c =
    given_within c.args.matches.now (option_of c.args.option.now) c.in-Some.value.now c.in-Some-decimal.number (rw c.in-Some.is at c.get_str.ensures)
    (sym c.in-Some-decimal.is ∙ c.decimal.ensures ∙ ap decimal_number c.as_bytes.ensures.value) c.requires.range

pub returns-in-None-clause-err : goal.returns-in-None-clause-err
returns-in-None-clause-err c = λ _.
    none_given c.args.matches.now (option_of c.args.option.now) c.in-Some.value.now (rw c.in-Some.is at c.get_str.ensures)
    (sym c.in-None.is ∙ c.decimal.ensures ∙ ap decimal_number c.as_bytes.ensures.value) c.requires.range
