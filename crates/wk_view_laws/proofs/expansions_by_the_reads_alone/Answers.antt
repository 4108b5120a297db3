use Rattle.wk_view_laws.proofs.PlanLemmas.{done-elsewhere, need-elsewhere}
use Rattle.wk_view_laws.proofs.expansions_by_the_reads_alone.Goals as goal

pub returns-clause-done : goal.returns-clause-done
returns-clause-done c = λ a b left viewed frame items progress before x seen answered end agrees. done-elsewhere a b _ before x seen answered agrees end

pub returns-clause-needed : goal.returns-clause-needed
returns-clause-needed c = λ a b left viewed wanted frame items progress before kind seen answered end agrees. need-elsewhere a b _ before wanted kind seen answered agrees end
