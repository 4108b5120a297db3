use Rattle.std.proofs.Common.{refl}
use Rattle.wk_examples.specs.Computing.{computing}
use Rattle.wk_examples.proofs.views.existence.Goals as goal

pub returns-clause-there : goal.returns-clause-there
unfolding computing
returns-clause-there c = refl

pub returns-clause-missing : goal.returns-clause-missing
unfolding computing
returns-clause-missing c = refl

pub returns-clause-missing_reads : goal.returns-clause-missing_reads
unfolding computing
returns-clause-missing_reads c = refl

pub returns-clause-not_read : goal.returns-clause-not_read
unfolding computing
returns-clause-not_read c = refl

pub returns-clause-counted_once : goal.returns-clause-counted_once
unfolding computing
returns-clause-counted_once c = refl

pub returns-clause-other_kind_is_counted : goal.returns-clause-other_kind_is_counted
unfolding computing
returns-clause-other_kind_is_counted c = refl

pub returns-clause-both_kinds : goal.returns-clause-both_kinds
unfolding computing
returns-clause-both_kinds c = refl
