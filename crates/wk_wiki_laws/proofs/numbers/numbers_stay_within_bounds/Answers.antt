use Rattle.wk_wiki_laws.proofs.KeptStates.{few-pages}
use Rattle.wk_wiki_laws.proofs.NumberBounds.{next-at-a-save, next-at-a-fan, numbers-below, cursors-low}
use Rattle.wk_wiki_laws.proofs.numbers.numbers_stay_within_bounds.Goals as goal

pub returns-clause-next : goal.returns-clause-next
returns-clause-next c = λ state keeps. keeps.next

pub returns-clause-jobs : goal.returns-clause-jobs
returns-clause-jobs c = numbers-below

pub returns-clause-at_a_save : goal.returns-clause-at_a_save
returns-clause-at_a_save c = next-at-a-save

pub returns-clause-at_a_fan : goal.returns-clause-at_a_fan
returns-clause-at_a_fan c = next-at-a-fan

pub returns-clause-pages : goal.returns-clause-pages
returns-clause-pages c = λ state keeps. few-pages state.history keeps.history

pub returns-clause-cursors : goal.returns-clause-cursors
returns-clause-cursors c = cursors-low
