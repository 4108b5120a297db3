use Rattle.std.proofs.Common.{[]}
use Rattle.wk_view_laws.proofs.ViewLemmas.{length-text, length-view}
use Rattle.wk_view_laws.proofs.reads_are_a_million_and_one_at_most.Goals as goal

pub returns-clause-view : goal.returns-clause-view
returns-clause-view c = length-view

pub returns-clause-text : goal.returns-clause-text
returns-clause-text c = λ a page text. length-text a page text []
