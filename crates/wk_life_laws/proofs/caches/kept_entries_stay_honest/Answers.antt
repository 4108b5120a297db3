use Rattle.wk_life_laws.proofs.LastingEntries.{lasting-made, lasting-replayed, lasting-stepped}
use Rattle.wk_life_laws.proofs.caches.kept_entries_stay_honest.Goals as goal

pub returns-clause-made : goal.returns-clause-made
returns-clause-made c = lasting-made

pub returns-clause-stepped : goal.returns-clause-stepped
returns-clause-stepped c = lasting-stepped

pub returns-clause-replayed : goal.returns-clause-replayed
returns-clause-replayed c = lasting-replayed
