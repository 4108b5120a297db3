use Rattle.std.proofs.Common.{refl}
use Rattle.wk_report_rules.specs.Computing.{computing}
use Rattle.wk_report_examples.proofs.links_to_missing_pages.Goals as goal

pub returns-clause-wanted : goal.returns-clause-wanted
unfolding computing
returns-clause-wanted c = refl

pub returns-clause-orphaned : goal.returns-clause-orphaned
unfolding computing
returns-clause-orphaned c = refl

pub returns-clause-uncategorized : goal.returns-clause-uncategorized
unfolding computing
returns-clause-uncategorized c = refl

pub returns-clause-no_template : goal.returns-clause-no_template
unfolding computing
returns-clause-no_template c = refl
