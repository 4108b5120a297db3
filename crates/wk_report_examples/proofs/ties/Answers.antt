use Rattle.std.proofs.Common.{refl}
use Rattle.wk_report_rules.specs.Computing.{computing}
use Rattle.wk_report_examples.proofs.ties.Goals as goal

pub returns : goal.returns
unfolding computing
returns c = refl
