use Rattle.std.proofs.Common.{lit≤, refl}
use Rattle.wk_wiki_rules.specs.Computing.{computing}
use Rattle.wk_complete_laws.proofs.Runs.{claimed-kept, draft-fit, reads-current, ticket-out}
use Rattle.wk_complete_laws.proofs.examples.a_refresh_that_is_current.Goals as goal

pub returns-clause-kept : goal.returns-clause-kept
returns-clause-kept c = claimed-kept

pub returns-clause-claimed : goal.returns-clause-claimed
unfolding computing
returns-clause-claimed c = record { start = refl; journal = refl; stepped = refl }

pub returns-clause-out : goal.returns-clause-out
returns-clause-out c = ticket-out

pub returns-clause-draft : goal.returns-clause-draft
returns-clause-draft c = draft-fit

pub returns-clause-whole : goal.returns-clause-whole
returns-clause-whole c = record { whole = refl; count = lit≤ tt }

pub returns-clause-current : goal.returns-clause-current
returns-clause-current c = reads-current

pub returns-clause-made : goal.returns-clause-made
unfolding computing
returns-clause-made c = record { start = refl; journal = refl; stepped = refl }
