use Rattle.std.proofs.Common.{refl}
use Rattle.wk_table_rules.specs.Computing.{computing}
use Rattle.wk_examples.proofs.tables.versions.Goals as goal

pub returns-clause-redirect_with_version_1 : goal.returns-clause-redirect_with_version_1
unfolding computing
returns-clause-redirect_with_version_1 c = refl

pub returns-clause-unknown : goal.returns-clause-unknown
unfolding computing
returns-clause-unknown c = refl

pub returns-clause-unknown_behind_redirects : goal.returns-clause-unknown_behind_redirects
unfolding computing
returns-clause-unknown_behind_redirects c = refl
