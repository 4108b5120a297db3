use Rattle.std.proofs.Common.{refl}
use Rattle.wk_examples.specs.Computing.{computing}
use Rattle.wk_examples.proofs.views.nothing_there.Goals as goal

pub returns-clause-argument : goal.returns-clause-argument
unfolding computing
returns-clause-argument c = refl

pub returns-clause-argument_in_a_name : goal.returns-clause-argument_in_a_name
unfolding computing
returns-clause-argument_in_a_name c = refl

pub returns-clause-argument_at_the_top : goal.returns-clause-argument_at_the_top
unfolding computing
returns-clause-argument_at_the_top c = refl

pub returns-clause-default_whole : goal.returns-clause-default_whole
unfolding computing
returns-clause-default_whole c = refl

pub returns-clause-default_in_a_default : goal.returns-clause-default_in_a_default
unfolding computing
returns-clause-default_in_a_default c = refl

pub returns-clause-crossing_marks : goal.returns-clause-crossing_marks
unfolding computing
returns-clause-crossing_marks c = refl

pub returns-clause-reads : goal.returns-clause-reads
unfolding computing
returns-clause-reads c = refl

pub returns-clause-missing_page : goal.returns-clause-missing_page
unfolding computing
returns-clause-missing_page c = refl

pub returns-clause-missing_page_reads : goal.returns-clause-missing_page_reads
unfolding computing
returns-clause-missing_page_reads c = refl
