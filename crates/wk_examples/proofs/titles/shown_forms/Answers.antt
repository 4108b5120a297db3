use Rattle.std.proofs.Common.{refl}
use Rattle.wk_text_rules.specs.Computing.{computing}
use Rattle.wk_examples.proofs.titles.shown_forms.Goals as goal

pub returns-clause-talk : goal.returns-clause-talk
unfolding computing
returns-clause-talk c = refl

pub returns-clause-main : goal.returns-clause-main
unfolding computing
returns-clause-main c = refl
