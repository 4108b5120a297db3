use Rattle.std.proofs.Common.{refl}
use Rattle.wk_text_rules.specs.Computing.{computing}
use Rattle.wk_examples.proofs.titles.legal_keys.Goals as goal

pub returns-clause-dots_within : goal.returns-clause-dots_within
unfolding computing
returns-clause-dots_within c = refl

pub returns-clause-half_a_percent_code : goal.returns-clause-half_a_percent_code
unfolding computing
returns-clause-half_a_percent_code c = refl

pub returns-clause-no_reference : goal.returns-clause-no_reference
unfolding computing
returns-clause-no_reference c = refl

pub returns-clause-two_tildes : goal.returns-clause-two_tildes
unfolding computing
returns-clause-two_tildes c = refl

pub returns-clause-longest : goal.returns-clause-longest
unfolding computing
returns-clause-longest c = refl
