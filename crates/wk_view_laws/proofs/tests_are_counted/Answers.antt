use Rattle.std.proofs.Common.{[], refl}
use Rattle.wk_view_laws.proofs.RowLemmas.{tests-text, tests-view}
use Rattle.wk_view_laws.proofs.tests_are_counted.Goals as goal

pub returns-clause-view : goal.returns-clause-view
returns-clause-view c = tests-view

pub returns-clause-text : goal.returns-clause-text
returns-clause-text c = λ a page text x seen end. tests-text a page text [] x seen refl end
