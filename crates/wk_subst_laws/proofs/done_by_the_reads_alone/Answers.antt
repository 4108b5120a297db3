use Rattle.std.proofs.Common.{[]}
use Rattle.std.proofs.lemmas.List.Elements.{All-nil}
use Rattle.wk_view_laws.proofs.PlanLemmas.{done-elsewhere}
use Rattle.wk_subst_laws.proofs.RoundLemmas.{same-world}
use Rattle.wk_subst_laws.proofs.done_by_the_reads_alone.Goals as goal

pub returns-clause-text : goal.returns-clause-text
returns-clause-text c = λ a b text x seen end agrees. done-elsewhere a b _ [] x seen (All-nil _) agrees end

pub returns-clause-world : goal.returns-clause-world
returns-clause-world c = same-world

pub returns-clause-items : goal.returns-clause-items
returns-clause-items c = λ a b left place items progress before x seen own end agrees. done-elsewhere a b _ before x seen own agrees end
