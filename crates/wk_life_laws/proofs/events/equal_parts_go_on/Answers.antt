use Rattle.wk_life_laws.proofs.Lives.{next_with}
use Rattle.wk_life_laws.proofs.events.equal_parts_go_on.Goals as goal

pub returns : goal.returns
returns c = next_with
