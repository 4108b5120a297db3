use Rattle.wk_view_laws.proofs.RoundLemmas.{length-leads}
use Rattle.wk_subst_laws.proofs.answered_needs_lead_on.Goals as goal

pub returns : goal.returns
returns c = λ a b text wanted kind seen answer end agrees answered. length-leads a b _ wanted kind answer seen end agrees answered
