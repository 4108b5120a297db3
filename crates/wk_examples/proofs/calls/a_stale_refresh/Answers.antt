use Rattle.std.proofs.Common.{refl}
use Rattle.wk_wiki_rules.specs.Computing.{computing}
use Rattle.wk_examples.proofs.calls.a_stale_refresh.Goals as goal

pub returns-clause-claimed : goal.returns-clause-claimed
unfolding computing
returns-clause-claimed c = refl

pub returns-clause-saved : goal.returns-clause-saved
unfolding computing
returns-clause-saved c = refl

pub returns-clause-current_before : goal.returns-clause-current_before
unfolding computing
returns-clause-current_before c = refl

pub returns-clause-stale : goal.returns-clause-stale
unfolding computing
returns-clause-stale c = refl

pub returns-clause-given_back : goal.returns-clause-given_back
unfolding computing
returns-clause-given_back c = refl

pub returns-clause-done : goal.returns-clause-done
unfolding computing
returns-clause-done c = refl
