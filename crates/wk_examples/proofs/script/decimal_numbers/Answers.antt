use Rattle.std.proofs.Common.{refl}
use Rattle.wk_page_rules.specs.Computing.{computing as pages}
use Rattle.wk_examples.proofs.script.decimal_numbers.Goals as goal

pub returns-clause-zero : goal.returns-clause-zero
unfolding pages
returns-clause-zero c = refl

pub returns-clause-two_zeros : goal.returns-clause-two_zeros
unfolding pages
returns-clause-two_zeros c = refl

pub returns-clause-nothing : goal.returns-clause-nothing
unfolding pages
returns-clause-nothing c = refl

pub returns-clause-sign : goal.returns-clause-sign
unfolding pages
returns-clause-sign c = refl

pub returns-clause-greatest : goal.returns-clause-greatest
unfolding pages
returns-clause-greatest c = refl

pub returns-clause-too_great : goal.returns-clause-too_great
unfolding pages
returns-clause-too_great c = refl
