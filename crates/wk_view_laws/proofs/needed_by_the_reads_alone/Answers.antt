use Rattle.std.proofs.Common.{[]}
use Rattle.std.proofs.lemmas.List.Elements.{All-nil}
use Rattle.wk_view_laws.proofs.PlanLemmas.{need-elsewhere}
use Rattle.wk_view_laws.proofs.needed_by_the_reads_alone.Goals as goal

pub returns-clause-view : goal.returns-clause-view
returns-clause-view c = λ a b page wanted kind seen end agrees. need-elsewhere a b _ [] wanted kind seen (All-nil _) agrees end

pub returns-clause-text : goal.returns-clause-text
returns-clause-text c = λ a b page wanted text kind seen end agrees. need-elsewhere a b _ [] wanted kind seen (All-nil _) agrees end

pub returns-clause-plan : goal.returns-clause-plan
returns-clause-plan c = λ a b p wanted kind seen end agrees. need-elsewhere a b p [] wanted kind seen (All-nil _) agrees end
