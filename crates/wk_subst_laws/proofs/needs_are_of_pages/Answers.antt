use Rattle.std.proofs.Common.{[]}
use Rattle.wk_view_laws.proofs.RoundLemmas.{need-unanswered}
use Rattle.wk_subst_laws.proofs.RoundLemmas.{need-early}
use Rattle.wk_subst_laws.proofs.needs_are_of_pages.Goals as goal

pub returns-clause-kind : goal.returns-clause-kind
returns-clause-kind c = λ a text wanted kind seen end. (need-early a text wanted kind seen end).0.of_text

pub returns-clause-title : goal.returns-clause-title
returns-clause-title c = λ a text wanted kind seen end. (need-early a text wanted kind seen end).0.of_page

pub returns-clause-unanswered : goal.returns-clause-unanswered
returns-clause-unanswered c = λ a text wanted kind seen end. need-unanswered a _ [] wanted kind seen end

pub returns-clause-early : goal.returns-clause-early
returns-clause-early c = λ a text wanted kind seen end. (need-early a text wanted kind seen end).1
