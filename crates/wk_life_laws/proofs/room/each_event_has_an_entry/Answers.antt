use Rattle.wk_life_laws.proofs.Lives.{counted_life}
use Rattle.wk_life_laws.proofs.room.each_event_has_an_entry.Goals as goal

pub returns : goal.returns
returns c = counted_life
