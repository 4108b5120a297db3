use Rattle.std.proofs.Common.{◌≡◌, take, refl}
use Rattle.std.proofs.lemmas.List.Elements.{All-from_recursion}
use Rattle.std.specs.Prelude.{Some}
use Rattle.wk_page_rules.specs.History.{text_of_revision}
use Rattle.wk_view_rules.specs.Views.{reads}
use Rattle.wk_view_rules.specs.Worlds.{Read, HasItsText, ask, page_of, of_world}
use Rattle.wk_wiki_rules.specs.Steps.{fan_pages}
use Rattle.wk_wiki_rules.specs.States.{no_state, world_of}
use Rattle.wk_wiki_laws.proofs.Formed.{IsWellFormed-none}
use Rattle.wk_wiki_rules.specs.Computing.{computing}
use Rattle.wk_life_laws.proofs.Since.{IsSoundSince-replayed}
use Rattle.wk_examples.specs.Wikis.{title_p, race, race_6, race_11}
use Rattle.wk_examples.proofs.call_laws.a_refresh_that_is_current.Goals as goal

pub returns-clause-formed : goal.returns-clause-formed
unfolding computing
returns-clause-formed c = (IsSoundSince-replayed fan_pages no_state race_11 0 (take 11 race) IsWellFormed-none refl).formed

pub returns-clause-honest : goal.returns-clause-honest
unfolding computing
returns-clause-honest c =
    All-from_recursion (λ (r : Read). HasItsText (text_of_revision race_11.history) (page_of r.answer))
    (reads (of_world (world_of race_6)) title_p) (refl, (refl, (refl, tt)))

pub returns-clause-none_stale : goal.returns-clause-none_stale
unfolding computing
returns-clause-none_stale c = refl

pub returns-clause-agrees : goal.returns-clause-agrees
unfolding computing
returns-clause-agrees c =
    All-from_recursion (λ (r : Read). ask (of_world (world_of race_11)) r.title r.kind ≡ Some r.answer)
    (reads (of_world (world_of race_6)) title_p) (refl, (refl, (refl, tt)))

pub returns-clause-held : goal.returns-clause-held
returns-clause-held c = refl

pub returns-clause-page : goal.returns-clause-page
returns-clause-page c = refl

pub returns-clause-done : goal.returns-clause-done
unfolding computing
returns-clause-done c = refl
