use Rattle.std.proofs.Common.{refl}
use Rattle.clap.proofs.OnLiterals.{clap_on_literals}
use Rattle.wk_words.specs.Verdicts.{verdict}
use Rattle.wk_examples.proofs.words.asking.Goals as goal

pub returns-clause-plain : goal.returns-clause-plain
unfolding verdict clap_on_literals
returns-clause-plain c = refl

pub returns-clause-option : goal.returns-clause-option
unfolding verdict clap_on_literals
returns-clause-option c = refl

pub returns-clause-behind_a_sign : goal.returns-clause-behind_a_sign
unfolding verdict clap_on_literals
returns-clause-behind_a_sign c = refl

pub returns-clause-greatest : goal.returns-clause-greatest
unfolding verdict clap_on_literals
returns-clause-greatest c = refl

pub returns-clause-without_effect : goal.returns-clause-without_effect
unfolding verdict clap_on_literals
returns-clause-without_effect c = refl

pub returns-clause-serving : goal.returns-clause-serving
unfolding verdict clap_on_literals
returns-clause-serving c = refl

pub returns-clause-reporting : goal.returns-clause-reporting
unfolding verdict clap_on_literals
returns-clause-reporting c = refl

pub returns-clause-flag : goal.returns-clause-flag
unfolding verdict clap_on_literals
returns-clause-flag c = refl

pub returns-clause-following : goal.returns-clause-following
unfolding verdict clap_on_literals
returns-clause-following c = refl

pub returns-clause-flag_elsewhere : goal.returns-clause-flag_elsewhere
unfolding verdict clap_on_literals
returns-clause-flag_elsewhere c = refl
