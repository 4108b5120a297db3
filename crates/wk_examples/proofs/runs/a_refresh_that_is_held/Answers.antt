use Rattle.std.proofs.Common.{◌∷◌, [], Some, refl}
use Rattle.wk_wiki_rules.specs.Steps.{fan_pages}
use Rattle.wk_wiki_rules.specs.StateComputing.{computing}
use Rattle.wk_wiki_rules.specs.States.{no_state}
use Rattle.wk_wiki_rules.specs.Events.{Save, Claim}
use Rattle.wk_wiki_laws.proofs.Formed.{IsWellFormed-none}
use Rattle.wk_examples.specs.Wikis.{title_p, members_text, members_2}
use Rattle.wk_life_laws.proofs.Since.{IsSoundSince-replayed}
use Rattle.wk_examples.proofs.runs.a_refresh_that_is_held.Goals as goal

pub returns-clause-formed : goal.returns-clause-formed
unfolding computing
returns-clause-formed c =
    (IsSoundSince-replayed fan_pages no_state members_2 0 (Save title_p (Some members_text) 11 ∷ Claim ∷ []) IsWellFormed-none refl).formed

pub returns-clause-held : goal.returns-clause-held
returns-clause-held c = refl

pub returns-clause-page : goal.returns-clause-page
returns-clause-page c = refl
