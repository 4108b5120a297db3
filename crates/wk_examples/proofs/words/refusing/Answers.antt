use Rattle.std.proofs.Common.{refl}
use Rattle.clap.proofs.OnLiterals.{clap_on_literals}
use Rattle.wk_words.specs.Verdicts.{verdict}
use Rattle.wk_examples.proofs.words.refusing.Goals as goal

pub returns-clause-nothing : goal.returns-clause-nothing
unfolding verdict clap_on_literals
returns-clause-nothing c = refl

pub returns-clause-no_such_command : goal.returns-clause-no_such_command
unfolding verdict clap_on_literals
returns-clause-no_such_command c = refl

pub returns-clause-no_such_replica : goal.returns-clause-no_such_replica
unfolding verdict clap_on_literals
returns-clause-no_such_replica c = refl

pub returns-clause-two_commands : goal.returns-clause-two_commands
unfolding verdict clap_on_literals
returns-clause-two_commands c = refl

pub returns-clause-twice : goal.returns-clause-twice
unfolding verdict clap_on_literals
returns-clause-twice c = refl

pub returns-clause-leading_zero : goal.returns-clause-leading_zero
unfolding verdict clap_on_literals
returns-clause-leading_zero c = refl

pub returns-clause-plus : goal.returns-clause-plus
unfolding verdict clap_on_literals
returns-clause-plus c = refl

pub returns-clause-too_small : goal.returns-clause-too_small
unfolding verdict clap_on_literals
returns-clause-too_small c = refl

pub returns-clause-too_large : goal.returns-clause-too_large
unfolding verdict clap_on_literals
returns-clause-too_large c = refl

pub returns-clause-no_value : goal.returns-clause-no_value
unfolding verdict clap_on_literals
returns-clause-no_value c = refl

pub returns-clause-unknown_option : goal.returns-clause-unknown_option
unfolding verdict clap_on_literals
returns-clause-unknown_option c = refl

pub returns-clause-unknown_report : goal.returns-clause-unknown_report
unfolding verdict clap_on_literals
returns-clause-unknown_report c = refl

pub returns-clause-flag_twice : goal.returns-clause-flag_twice
unfolding verdict clap_on_literals
returns-clause-flag_twice c = refl

pub returns-clause-flag_with_a_value : goal.returns-clause-flag_with_a_value
unfolding verdict clap_on_literals
returns-clause-flag_with_a_value c = refl
