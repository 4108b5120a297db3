use Rattle.std.proofs.Common.{refl}
use Rattle.wk_tool_rules.specs.Computing.{computing as tools}
use Rattle.wk_examples.proofs.tools.two_pages.Goals as goal

pub returns-clause-titles : goal.returns-clause-titles
unfolding tools
returns-clause-titles c = refl

pub returns-clause-texts : goal.returns-clause-texts
unfolding tools
returns-clause-texts c = refl
