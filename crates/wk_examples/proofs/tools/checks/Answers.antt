use Rattle.std.proofs.Common.{refl}
use Rattle.wk_tool_rules.specs.Computing.{computing as tools}
use Rattle.wk_examples.proofs.tools.checks.Goals as goal

pub returns-clause-nothing : goal.returns-clause-nothing
unfolding tools
returns-clause-nothing c = refl

pub returns-clause-link_row : goal.returns-clause-link_row
unfolding tools
returns-clause-link_row c = refl

pub returns-clause-first_version : goal.returns-clause-first_version
unfolding tools
returns-clause-first_version c = refl

pub returns-clause-refreshed : goal.returns-clause-refreshed
unfolding tools
returns-clause-refreshed c = refl

pub returns-clause-generated : goal.returns-clause-generated
unfolding tools
returns-clause-generated c = refl
