use Rattle.std.proofs.Common.{refl}
use Rattle.wk_report_rules.specs.Computing.{computing}
use Rattle.wk_report_examples.proofs.redirects_to_redirects.Goals as goal

pub returns-clause-chain : goal.returns-clause-chain
unfolding computing
returns-clause-chain c = refl

pub returns-clause-itself : goal.returns-clause-itself
unfolding computing
returns-clause-itself c = refl

pub returns-clause-none : goal.returns-clause-none
unfolding computing
returns-clause-none c = refl
