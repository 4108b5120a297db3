use Rattle.std.proofs.Common.{refl}
use Rattle.wk_script_rules.specs.Computing.{computing as scripts}
use Rattle.wk_examples.proofs.refreshes.a_full_journal_and_a_fan.Goals as goal

pub returns-clause-refused : goal.returns-clause-refused
unfolding scripts
returns-clause-refused c = refl

pub returns-clause-both_kinds : goal.returns-clause-both_kinds
unfolding scripts
returns-clause-both_kinds c = refl
