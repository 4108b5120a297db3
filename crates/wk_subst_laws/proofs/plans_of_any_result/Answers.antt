use Rattle.std.proofs.Common.{[]}
use Rattle.std.proofs.lemmas.List.Elements.{All-nil}
use Rattle.wk_view_laws.proofs.PlanLemmas.{done-elsewhere, need-elsewhere}
use Rattle.wk_subst_laws.proofs.RoundLemmas.{rounds-end}
use Rattle.wk_subst_laws.proofs.plans_of_any_result.Goals as goal

pub returns-clause-done : goal.returns-clause-done
returns-clause-done c = λ world a b p x seen end agrees. done-elsewhere a b p [] x seen (All-nil _) agrees end

pub returns-clause-needed : goal.returns-clause-needed
returns-clause-needed c = λ world a b p wanted kind seen end agrees. need-elsewhere a b p [] wanted kind seen (All-nil _) agrees end

pub returns-clause-rounds : goal.returns-clause-rounds
returns-clause-rounds c = λ world. rounds-end
