use Rattle.std.proofs.Common.{refl}
use Rattle.wk_feed_rules.specs.Computing.{computing}
use Rattle.wk_feed_examples.proofs.unknown_lines.Goals as goal

pub returns-clause-empty : goal.returns-clause-empty
unfolding computing
returns-clause-empty c = refl

pub returns-clause-cut : goal.returns-clause-cut
unfolding computing
returns-clause-cut c = refl

pub returns-clause-an_object : goal.returns-clause-an_object
unfolding computing
returns-clause-an_object c = refl

pub returns-clause-a_text : goal.returns-clause-a_text
unfolding computing
returns-clause-a_text c = refl

pub returns-clause-no_value : goal.returns-clause-no_value
unfolding computing
returns-clause-no_value c = refl

pub returns-clause-no_name : goal.returns-clause-no_name
unfolding computing
returns-clause-no_name c = refl

pub returns-clause-unknown : goal.returns-clause-unknown
unfolding computing
returns-clause-unknown c = refl

pub returns-clause-too_many : goal.returns-clause-too_many
unfolding computing
returns-clause-too_many c = refl

pub returns-clause-too_few : goal.returns-clause-too_few
unfolding computing
returns-clause-too_few c = refl

pub returns-clause-first_line : goal.returns-clause-first_line
unfolding computing
returns-clause-first_line c = refl
