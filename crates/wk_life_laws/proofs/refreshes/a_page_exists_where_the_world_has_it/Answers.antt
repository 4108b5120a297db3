use Rattle.wk_life_laws.proofs.Marks.{exists-now}
use Rattle.wk_life_laws.proofs.refreshes.a_page_exists_where_the_world_has_it.Goals as goal

pub returns : goal.returns
returns c = exists-now
