use Rattle.std.proofs.Common.{[]}
use Rattle.std.proofs.lemmas.List.Elements.{All-nil}
use Rattle.wk_view_laws.proofs.PlanLemmas.{agrees-itself}
use Rattle.wk_view_laws.proofs.reads_are_answers.Goals as goal

pub returns-clause-view : goal.returns-clause-view
returns-clause-view c = λ a page. agrees-itself a _ [] (All-nil _)

pub returns-clause-text : goal.returns-clause-text
returns-clause-text c = λ a page text. agrees-itself a _ [] (All-nil _)
