use Rattle.wk_wiki_laws.proofs.Formed.{IsWellFormed-none, IsWellFormed-reopened, IsWellFormed-step}
use Rattle.wk_wiki_laws.proofs.soundness.a_wiki_is_well_formed.Goals as goal

pub returns-clause-none : goal.returns-clause-none
returns-clause-none c = IsWellFormed-none

pub returns-clause-stepped : goal.returns-clause-stepped
returns-clause-stepped c = IsWellFormed-step

pub returns-clause-reopened : goal.returns-clause-reopened
returns-clause-reopened c = IsWellFormed-reopened
