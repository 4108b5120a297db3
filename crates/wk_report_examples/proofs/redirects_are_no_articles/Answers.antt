use Rattle.std.proofs.Common.{refl}
use Rattle.wk_report_rules.specs.Computing.{computing}
use Rattle.wk_report_examples.proofs.redirects_are_no_articles.Goals as goal

pub returns-clause-orphaned : goal.returns-clause-orphaned
unfolding computing
returns-clause-orphaned c = refl

pub returns-clause-uncategorized : goal.returns-clause-uncategorized
unfolding computing
returns-clause-uncategorized c = refl
