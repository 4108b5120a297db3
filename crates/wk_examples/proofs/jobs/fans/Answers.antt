use Rattle.std.proofs.Common.{refl}
use Rattle.wk_wiki_rules.specs.JobComputing.{computing}
use Rattle.wk_examples.proofs.jobs.fans.Goals as goal

pub returns-clause-added : goal.returns-clause-added
unfolding computing
returns-clause-added c = refl

pub returns-clause-widened : goal.returns-clause-widened
unfolding computing
returns-clause-widened c = refl

pub returns-clause-not_narrowed : goal.returns-clause-not_narrowed
unfolding computing
returns-clause-not_narrowed c = refl

pub returns-clause-first : goal.returns-clause-first
unfolding computing
returns-clause-first c = refl

pub returns-clause-none : goal.returns-clause-none
unfolding computing
returns-clause-none c = refl

pub returns-clause-moved : goal.returns-clause-moved
unfolding computing
returns-clause-moved c = refl

pub returns-clause-dropped : goal.returns-clause-dropped
unfolding computing
returns-clause-dropped c = refl
