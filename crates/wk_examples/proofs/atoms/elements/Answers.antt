use Rattle.std.proofs.Common.{refl}
use Rattle.wk_examples.specs.Computing.{computing}
use Rattle.wk_examples.proofs.atoms.elements.Goals as goal

pub returns-clause-sealed : goal.returns-clause-sealed
unfolding computing
returns-clause-sealed c = refl

pub returns-clause-closed_in_itself : goal.returns-clause-closed_in_itself
unfolding computing
returns-clause-closed_in_itself c = refl

pub returns-clause-other_case : goal.returns-clause-other_case
unfolding computing
returns-clause-other_case c = refl

pub returns-clause-no_tag : goal.returns-clause-no_tag
unfolding computing
returns-clause-no_tag c = refl

pub returns-clause-no_end_tag : goal.returns-clause-no_end_tag
unfolding computing
returns-clause-no_end_tag c = refl

pub returns-clause-ignored : goal.returns-clause-ignored
unfolding computing
returns-clause-ignored c = refl

pub returns-clause-ignored_for_inclusion : goal.returns-clause-ignored_for_inclusion
unfolding computing
returns-clause-ignored_for_inclusion c = refl
