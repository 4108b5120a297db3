use Rattle.std.proofs.Common.{refl}
use Rattle.wk_report_rules.specs.Computing.{computing}
use Rattle.wk_report_examples.proofs.deleted_pages.Goals as goal

pub returns-clause-wanted : goal.returns-clause-wanted
unfolding computing
returns-clause-wanted c = refl

pub returns-clause-orphaned : goal.returns-clause-orphaned
unfolding computing
returns-clause-orphaned c = refl

pub returns-clause-refreshed : goal.returns-clause-refreshed
unfolding computing
returns-clause-refreshed c = refl

pub returns-clause-orphaned_then : goal.returns-clause-orphaned_then
unfolding computing
returns-clause-orphaned_then c = refl

pub returns-clause-uncategorized : goal.returns-clause-uncategorized
unfolding computing
returns-clause-uncategorized c = refl
