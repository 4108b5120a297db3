use Rattle.std.proofs.Common.{refl}
use Rattle.wk_tool_rules.specs.Computing.{computing as tools}
use Rattle.wk_examples.proofs.tools.saves_one_after_the_other.Goals as goal

pub returns-clause-events : goal.returns-clause-events
unfolding tools
returns-clause-events c = refl

pub returns-clause-refused : goal.returns-clause-refused
unfolding tools
returns-clause-refused c = refl

pub returns-clause-all_made : goal.returns-clause-all_made
unfolding tools
returns-clause-all_made c = refl
