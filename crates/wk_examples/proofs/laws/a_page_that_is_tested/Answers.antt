use Rattle.std.proofs.Common.{refl}
use Rattle.wk_examples.specs.Computing.{computing}
use Rattle.wk_examples.proofs.laws.a_page_that_is_tested.Goals as goal

pub returns-clause-unnamed : goal.returns-clause-unnamed
unfolding computing
returns-clause-unnamed c = refl

pub returns-clause-named : goal.returns-clause-named
unfolding computing
returns-clause-named c = refl
