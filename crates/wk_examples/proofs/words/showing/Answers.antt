use Rattle.std.proofs.Common.{refl}
use Rattle.clap.proofs.OnLiterals.{clap_on_literals}
use Rattle.wk_words.specs.Verdicts.{verdict}
use Rattle.wk_examples.proofs.words.showing.Goals as goal

pub returns-clause-help : goal.returns-clause-help
unfolding verdict clap_on_literals
returns-clause-help c = refl

pub returns-clause-version : goal.returns-clause-version
unfolding verdict clap_on_literals
returns-clause-version c = refl

pub returns-clause-behind_any_command : goal.returns-clause-behind_any_command
unfolding verdict clap_on_literals
returns-clause-behind_any_command c = refl

pub returns-clause-before_a_fault : goal.returns-clause-before_a_fault
unfolding verdict clap_on_literals
returns-clause-before_a_fault c = refl

pub returns-clause-behind_a_fault : goal.returns-clause-behind_a_fault
unfolding verdict clap_on_literals
returns-clause-behind_a_fault c = refl
