use Rattle.std.proofs.Common.{refl}
use Rattle.wk_tool_rules.specs.Computing.{computing as tools}
use Rattle.wk_examples.proofs.tools.draws.Goals as goal

pub returns-clause-becomes : goal.returns-clause-becomes
unfolding tools
returns-clause-becomes c = refl

pub returns-clause-below_a_hundred : goal.returns-clause-below_a_hundred
unfolding tools
returns-clause-below_a_hundred c = refl
