use Rattle.std.proofs.Common.{[]}
use Rattle.std.proofs.lemmas.List.Elements.{All-nil}
use Rattle.wk_view_laws.proofs.PlanLemmas.{need-elsewhere}
use Rattle.wk_subst_laws.proofs.needed_by_the_reads_alone.Goals as goal

pub returns-clause-text : goal.returns-clause-text
returns-clause-text c = λ a b text wanted kind seen end agrees. need-elsewhere a b _ [] wanted kind seen (All-nil _) agrees end

pub returns-clause-items : goal.returns-clause-items
returns-clause-items c = λ a b left place items progress before wanted kind seen own end agrees. need-elsewhere a b _ before wanted kind seen own agrees end
