use Rattle.std.proofs.Common.{◌≡◌, Some, drop, refl, take, true}
use Rattle.std.proofs.lemmas.List.Elements.{All-from_recursion}
use Rattle.wk_view_rules.specs.Views.{view}
use Rattle.wk_view_rules.specs.Worlds.{Read, fits_kind, of_world}
use Rattle.wk_wiki_rules.specs.Steps.{fan_pages}
use Rattle.wk_wiki_rules.specs.Lives.{replay_from}
use Rattle.wk_wiki_rules.specs.States.{no_state, world_of}
use Rattle.wk_wiki_laws.specs.WellFormed.{IsWellFormed}
use Rattle.wk_wiki_laws.proofs.Formed.{IsWellFormed-none}
use Rattle.wk_view_rules.specs.Plans.{done}
use Rattle.wk_wiki_rules.specs.Computing.{computing}
use Rattle.wk_life_laws.specs.Caches.{IsLastingEntry}
use Rattle.wk_life_laws.proofs.LastingEntries.{lasting-made, lasting-replayed}
use Rattle.wk_life_laws.proofs.Since.{IsSoundSince-replayed}
use Rattle.wk_examples.specs.Cached.{cached}
use Rattle.wk_examples.specs.Wikis.{title_p, race, race_6, race_12}
use Rattle.wk_examples.proofs.call_laws.a_cached_read_that_is_current.Goals as goal

formed-6 : IsWellFormed race_6
unfolding computing
formed-6 = (IsSoundSince-replayed fan_pages no_state race_6 0 (take 6 race) IsWellFormed-none refl).formed

drafted-6 : view (of_world (world_of race_6)) title_p ≡ done cached.reading.expanded cached.reading.reads
unfolding computing
drafted-6 = refl

made-6 : IsLastingEntry race_6 cached
made-6 = lasting-made race_6 cached formed-6 refl drafted-6 refl

later : replay_from fan_pages race_6 6 (drop 6 race) ≡ Some race_12
unfolding computing
later = refl

pub returns-clause-made : goal.returns-clause-made
returns-clause-made c = made-6

pub returns-clause-seen : goal.returns-clause-seen
unfolding computing
returns-clause-seen c = refl

pub returns-clause-formed : goal.returns-clause-formed
unfolding computing
returns-clause-formed c = (IsSoundSince-replayed fan_pages no_state race_12 0 race IsWellFormed-none refl).formed

pub returns-clause-honest : goal.returns-clause-honest
returns-clause-honest c = (lasting-replayed fan_pages race_6 race_12 6 (drop 6 race) cached later made-6).honest

pub returns-clause-drafted : goal.returns-clause-drafted
returns-clause-drafted c = drafted-6

pub returns-clause-answers : goal.returns-clause-answers
unfolding computing
returns-clause-answers c = All-from_recursion (λ (r : Read). fits_kind r.kind r.answer ≡ true) cached.reading.reads (refl, (refl, (refl, tt)))

pub returns-clause-none_stale : goal.returns-clause-none_stale
unfolding computing
returns-clause-none_stale c = refl
