use Rattle.wk_life_laws.proofs.NumbersFit.{fan_numbers_fit, served_fit}
use Rattle.wk_life_laws.proofs.numbers.a_fan_fits.Goals as goal

pub returns-clause-served : goal.returns-clause-served
returns-clause-served c = served_fit

pub returns-clause-numbers : goal.returns-clause-numbers
returns-clause-numbers c = fan_numbers_fit
