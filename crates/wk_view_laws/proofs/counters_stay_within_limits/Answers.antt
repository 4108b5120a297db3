use Rattle.std.proofs.Common.{[]}
use Rattle.wk_view_laws.proofs.ViewLemmas.{limits-text, limits-view}
use Rattle.wk_view_laws.proofs.counters_stay_within_limits.Goals as goal

pub returns-clause-view : goal.returns-clause-view
returns-clause-view c = limits-view

pub returns-clause-text : goal.returns-clause-text
returns-clause-text c = λ a page text x seen end. limits-text a page text [] x seen end
