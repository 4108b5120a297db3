use Rattle.std.proofs.Common.{refl}
use Rattle.wk_examples.specs.Computing.{computing}
use Rattle.wk_examples.proofs.links.kinds.Goals as goal

pub returns-clause-categories : goal.returns-clause-categories
unfolding computing
returns-clause-categories c = refl

pub returns-clause-no_title : goal.returns-clause-no_title
unfolding computing
returns-clause-no_title c = refl

pub returns-clause-colon_behind_an_underscore : goal.returns-clause-colon_behind_an_underscore
unfolding computing
returns-clause-colon_behind_an_underscore c = refl

pub returns-clause-newline_in_a_label : goal.returns-clause-newline_in_a_label
unfolding computing
returns-clause-newline_in_a_label c = refl
