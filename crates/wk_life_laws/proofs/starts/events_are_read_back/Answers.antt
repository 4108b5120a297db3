use Rattle.wk_life_laws.proofs.EntriesBack.{all-stand, all-told, count-standing, events-made, events-stay, events-stepped}
use Rattle.wk_life_laws.proofs.starts.events_are_read_back.Goals as goal

pub returns-clause-made : goal.returns-clause-made
returns-clause-made c = events-made

pub returns-clause-stay : goal.returns-clause-stay
returns-clause-stay c = events-stay

pub returns-clause-stepped : goal.returns-clause-stepped
returns-clause-stepped c = events-stepped

pub returns-clause-stand : goal.returns-clause-stand
returns-clause-stand c = all-stand

pub returns-clause-told : goal.returns-clause-told
returns-clause-told c = all-told

pub returns-clause-count : goal.returns-clause-count
returns-clause-count c = count-standing
