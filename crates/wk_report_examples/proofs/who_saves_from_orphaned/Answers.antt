use Rattle.std.proofs.Common.{refl}
use Rattle.wk_report_rules.specs.Computing.{computing}
use Rattle.wk_report_examples.proofs.who_saves_from_orphaned.Goals as goal

pub returns-clause-itself : goal.returns-clause-itself
unfolding computing
returns-clause-itself c = refl

pub returns-clause-talk_link : goal.returns-clause-talk_link
unfolding computing
returns-clause-talk_link c = refl
