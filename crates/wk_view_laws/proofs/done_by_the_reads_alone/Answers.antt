use Rattle.std.proofs.Common.{[]}
use Rattle.std.proofs.lemmas.List.Elements.{All-nil}
use Rattle.wk_view_laws.proofs.PlanLemmas.{done-elsewhere}
use Rattle.wk_view_laws.proofs.done_by_the_reads_alone.Goals as goal

pub returns-clause-view : goal.returns-clause-view
returns-clause-view c = λ a b page x seen end agrees. done-elsewhere a b _ [] x seen (All-nil _) agrees end

pub returns-clause-text : goal.returns-clause-text
returns-clause-text c = λ a b page text x seen end agrees. done-elsewhere a b _ [] x seen (All-nil _) agrees end

pub returns-clause-plan : goal.returns-clause-plan
returns-clause-plan c = λ a b p x seen end agrees. done-elsewhere a b p [] x seen (All-nil _) agrees end
