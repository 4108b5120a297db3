use Rattle.std.proofs.Common.{refl}
use Rattle.wk_examples.specs.Computing.{computing}
use Rattle.wk_examples.proofs.views.names_that_call_nothing.Goals as goal

pub returns-clause-brace : goal.returns-clause-brace
unfolding computing
returns-clause-brace c = refl

pub returns-clause-other_function : goal.returns-clause-other_function
unfolding computing
returns-clause-other_function c = refl

pub returns-clause-special : goal.returns-clause-special
unfolding computing
returns-clause-special c = refl

pub returns-clause-special_reads : goal.returns-clause-special_reads
unfolding computing
returns-clause-special_reads c = refl

pub returns-clause-written_with_its_parts : goal.returns-clause-written_with_its_parts
unfolding computing
returns-clause-written_with_its_parts c = refl

pub returns-clause-sealed_byte : goal.returns-clause-sealed_byte
unfolding computing
returns-clause-sealed_byte c = refl

pub returns-clause-empty_name : goal.returns-clause-empty_name
unfolding computing
returns-clause-empty_name c = refl

pub returns-clause-parts_are_read : goal.returns-clause-parts_are_read
unfolding computing
returns-clause-parts_are_read c = refl
