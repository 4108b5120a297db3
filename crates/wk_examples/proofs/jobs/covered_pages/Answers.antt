use Rattle.std.proofs.Common.{refl}
use Rattle.wk_wiki_rules.specs.JobComputing.{computing}
use Rattle.wk_examples.proofs.jobs.covered_pages.Goals as goal

pub returns-clause-queued : goal.returns-clause-queued
unfolding computing
returns-clause-queued c = refl

pub returns-clause-claimed : goal.returns-clause-claimed
unfolding computing
returns-clause-claimed c = refl

pub returns-clause-below_the_page : goal.returns-clause-below_the_page
unfolding computing
returns-clause-below_the_page c = refl

pub returns-clause-cursor_at_the_page : goal.returns-clause-cursor_at_the_page
unfolding computing
returns-clause-cursor_at_the_page c = refl

pub returns-clause-not_reached : goal.returns-clause-not_reached
unfolding computing
returns-clause-not_reached c = refl

pub returns-clause-served_already : goal.returns-clause-served_already
unfolding computing
returns-clause-served_already c = refl
