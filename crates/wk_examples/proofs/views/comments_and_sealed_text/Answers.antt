use Rattle.std.proofs.Common.{refl}
use Rattle.wk_examples.specs.Computing.{computing}
use Rattle.wk_examples.proofs.views.comments_and_sealed_text.Goals as goal

pub returns-clause-line_comment : goal.returns-clause-line_comment
unfolding computing
returns-clause-line_comment c = refl

pub returns-clause-comment : goal.returns-clause-comment
unfolding computing
returns-clause-comment c = refl

pub returns-clause-sealed : goal.returns-clause-sealed
unfolding computing
returns-clause-sealed c = refl

pub returns-clause-open_sealed : goal.returns-clause-open_sealed
unfolding computing
returns-clause-open_sealed c = refl

pub returns-clause-sealed_isnt_blank : goal.returns-clause-sealed_isnt_blank
unfolding computing
returns-clause-sealed_isnt_blank c = refl

pub returns-clause-sealed_isnt_equal : goal.returns-clause-sealed_isnt_equal
unfolding computing
returns-clause-sealed_isnt_equal c = refl
