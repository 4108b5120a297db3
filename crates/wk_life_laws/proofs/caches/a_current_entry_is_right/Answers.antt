use Rattle.wk_life_laws.proofs.CacheEntries.{entry-right}
use Rattle.wk_life_laws.proofs.caches.a_current_entry_is_right.Goals as goal

pub returns : goal.returns
returns c = entry-right
