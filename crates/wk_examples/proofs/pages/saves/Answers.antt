use Rattle.std.proofs.Common.{refl}
use Rattle.wk_page_rules.specs.Computing.{computing}
use Rattle.wk_examples.proofs.pages.saves.Goals as goal

pub returns-clause-deleted : goal.returns-clause-deleted
unfolding computing
returns-clause-deleted c = refl

pub returns-clause-saved_again : goal.returns-clause-saved_again
unfolding computing
returns-clause-saved_again c = refl
