use Rattle.std.proofs.Common.{[]}
use Rattle.wk_view_laws.proofs.RoundLemmas.{length-leads, need-text, need-view}
use Rattle.wk_view_laws.proofs.answered_needs_lead_on.Goals as goal

pub returns-clause-plan : goal.returns-clause-plan
returns-clause-plan c = λ a b p wanted kind seen answer end agrees answered. length-leads a b p wanted kind answer seen end agrees answered

pub returns-clause-view : goal.returns-clause-view
returns-clause-view c = need-view

pub returns-clause-text : goal.returns-clause-text
returns-clause-text c = λ a page wanted text kind seen end. need-text a page text [] wanted kind seen end
