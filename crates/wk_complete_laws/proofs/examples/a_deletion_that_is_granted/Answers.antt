use Rattle.std.proofs.Common.{lit≤, refl}
use Rattle.wk_wiki_rules.specs.Computing.{computing}
use Rattle.wk_complete_laws.proofs.Runs.{deleted-kept, refreshed-kept}
use Rattle.wk_complete_laws.proofs.examples.a_deletion_that_is_granted.Goals as goal

pub returns-clause-kept : goal.returns-clause-kept
returns-clause-kept c = refreshed-kept

pub returns-clause-unsealed : goal.returns-clause-unsealed
returns-clause-unsealed c = refl

pub returns-clause-whole : goal.returns-clause-whole
returns-clause-whole c = record { whole = refl; count = lit≤ tt }

pub returns-clause-granted : goal.returns-clause-granted
unfolding computing
returns-clause-granted c = refl

pub returns-clause-made : goal.returns-clause-made
unfolding computing
returns-clause-made c = record { start = refl; journal = refl; stepped = refl }

pub returns-clause-kept_behind : goal.returns-clause-kept_behind
returns-clause-kept_behind c = deleted-kept
