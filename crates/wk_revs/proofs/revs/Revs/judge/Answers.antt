use Rattle.std.proofs.Common.{rules}
use Rattle.wk_page_rules.specs.Verdict.{judged}
use Rattle.wk_revs.proofs.revs.Revs.judge.Goals as goal

pub returns-in_default-clause-verdict : goal.returns-in_default-clause-verdict
unfolding judged
returns-in_default-clause-verdict c = search rules

pub returns-in_default-body-clause-verdict : goal.returns-in_default-body-clause-verdict
unfolding judged
returns-in_default-body-clause-verdict c = search rules

pub returns-then-len-gt-MAX_TEXT-clause-verdict : goal.returns-then-len-gt-MAX_TEXT-clause-verdict
unfolding judged
returns-then-len-gt-MAX_TEXT-clause-verdict c = search rules

pub returns-clause-verdict : goal.returns-clause-verdict
unfolding judged
returns-clause-verdict c = search rules
