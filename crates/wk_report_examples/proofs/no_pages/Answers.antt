use Rattle.std.proofs.Common.{refl}
use Rattle.wk_report_rules.specs.Computing.{computing}
use Rattle.wk_report_examples.proofs.no_pages.Goals as goal

pub returns-clause-wanted : goal.returns-clause-wanted
unfolding computing
returns-clause-wanted c = refl

pub returns-clause-orphaned : goal.returns-clause-orphaned
unfolding computing
returns-clause-orphaned c = refl

pub returns-clause-uncategorized : goal.returns-clause-uncategorized
unfolding computing
returns-clause-uncategorized c = refl

pub returns-clause-double_redirects : goal.returns-clause-double_redirects
unfolding computing
returns-clause-double_redirects c = refl

pub returns-clause-most_templates : goal.returns-clause-most_templates
unfolding computing
returns-clause-most_templates c = refl
