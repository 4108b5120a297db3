use Rattle.wk_expand.proofs.RoundLaws.{needs-end, rounds-end, seen-at_first, seen-next, text_needs-end, text_rounds-end}
use Rattle.wk_expand.proofs.laws.rounds_of_drafts_come_to_an_end.Goals as goal

pub returns-clause-first : goal.returns-clause-first
returns-clause-first c = seen-at_first

pub returns-clause-next : goal.returns-clause-next
returns-clause-next c = seen-next

pub returns-clause-rounds : goal.returns-clause-rounds
returns-clause-rounds c = rounds-end

pub returns-clause-text_rounds : goal.returns-clause-text_rounds
returns-clause-text_rounds c = text_rounds-end

pub returns-clause-needs : goal.returns-clause-needs
returns-clause-needs c = needs-end

pub returns-clause-text_needs : goal.returns-clause-text_needs
returns-clause-text_needs c = text_needs-end
