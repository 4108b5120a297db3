use Rattle.std.proofs.Common.{[]}
use Rattle.wk_view_laws.proofs.RoundLemmas.{need-unanswered}
use Rattle.wk_view_laws.proofs.needs_are_unanswered.Goals as goal

pub returns-clause-view : goal.returns-clause-view
returns-clause-view c = λ a page wanted kind seen end. need-unanswered a _ [] wanted kind seen end

pub returns-clause-text : goal.returns-clause-text
returns-clause-text c = λ a page wanted text kind seen end. need-unanswered a _ [] wanted kind seen end
