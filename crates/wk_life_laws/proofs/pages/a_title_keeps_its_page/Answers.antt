use Rattle.std.proofs.Common.{refl}
use Rattle.wk_life_laws.proofs.LastingEntries.{number-kept, number-replayed}
use Rattle.wk_life_laws.proofs.pages.a_title_keeps_its_page.Goals as goal

pub returns-clause-stepped : goal.returns-clause-stepped
returns-clause-stepped c = number-kept

pub returns-clause-replayed : goal.returns-clause-replayed
returns-clause-replayed c = number-replayed

pub returns-clause-reopened : goal.returns-clause-reopened
returns-clause-reopened c = λ state title. refl
