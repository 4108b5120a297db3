use Rattle.std.proofs.Common.{refl}
use Rattle.wk_examples.specs.Computing.{computing}
use Rattle.wk_examples.proofs.trees.parts.Goals as goal

pub returns-clause-title_with_equals : goal.returns-clause-title_with_equals
unfolding computing
returns-clause-title_with_equals c = refl

pub returns-clause-empty_parts : goal.returns-clause-empty_parts
unfolding computing
returns-clause-empty_parts c = refl

pub returns-clause-later_equals : goal.returns-clause-later_equals
unfolding computing
returns-clause-later_equals c = refl

pub returns-clause-nodes_in_names : goal.returns-clause-nodes_in_names
unfolding computing
returns-clause-nodes_in_names c = refl

pub returns-clause-outside : goal.returns-clause-outside
unfolding computing
returns-clause-outside c = refl

pub returns-clause-unmatched : goal.returns-clause-unmatched
unfolding computing
returns-clause-unmatched c = refl

pub returns-clause-function : goal.returns-clause-function
unfolding computing
returns-clause-function c = refl

pub returns-clause-open_nowiki : goal.returns-clause-open_nowiki
unfolding computing
returns-clause-open_nowiki c = refl
