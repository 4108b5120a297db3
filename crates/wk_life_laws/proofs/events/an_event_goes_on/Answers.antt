use Rattle.wk_life_laws.proofs.Lives.{next_life}
use Rattle.wk_life_laws.proofs.events.an_event_goes_on.Goals as goal

pub returns : goal.returns
returns c = next_life
