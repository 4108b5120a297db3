use Rattle.std.proofs.Common.{refl}
use Rattle.wk_life_laws.proofs.Lives.{sealed_life}
use Rattle.wk_life_laws.proofs.seals.a_seal_keeps_a_life.Goals as goal

pub returns-clause-sealed : goal.returns-clause-sealed
returns-clause-sealed c = sealed_life

pub returns-clause-start : goal.returns-clause-start
returns-clause-start c = λ life point. refl

pub returns-clause-journal : goal.returns-clause-journal
returns-clause-journal c = λ life point. refl
