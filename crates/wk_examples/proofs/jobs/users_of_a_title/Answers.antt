use Rattle.std.proofs.Common.{refl}
use Rattle.wk_wiki_rules.specs.JobComputing.{computing}
use Rattle.wk_examples.proofs.jobs.users_of_a_title.Goals as goal

pub returns-clause-by_templates : goal.returns-clause-by_templates
unfolding computing
returns-clause-by_templates c = refl

pub returns-clause-by_either : goal.returns-clause-by_either
unfolding computing
returns-clause-by_either c = refl

pub returns-clause-above : goal.returns-clause-above
unfolding computing
returns-clause-above c = refl

pub returns-clause-at_most : goal.returns-clause-at_most
unfolding computing
returns-clause-at_most c = refl

pub returns-clause-linked_only : goal.returns-clause-linked_only
unfolding computing
returns-clause-linked_only c = refl
