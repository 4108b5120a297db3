use Rattle.std.proofs.Common.{◌≡◌, false, true, [], ◌∷◌, refl, ap, inl, inr, take}
use Rattle.wk_wiki_rules.specs.Steps.{fan_pages}
use Rattle.wk_page_rules.specs.PageRows.{PageRows, no_rows}
use Rattle.wk_wiki_rules.specs.States.{State, no_state}
use Rattle.wk_wiki_laws.specs.WellFormed.{IsWellFormed}
use Rattle.wk_wiki_laws.proofs.Formed.{IsWellFormed-none}
use Rattle.wk_wiki_laws.proofs.Sound.{IsSound-none}
use Rattle.wk_wiki_rules.specs.Computing.{computing}
use Rattle.wk_life_laws.specs.Sound.{IsSoundSince}
use Rattle.wk_life_laws.proofs.Since.{IsSoundSince-replayed, IsSoundSince-start}
use Rattle.wk_examples.specs.Stores.{title_t}
use Rattle.wk_examples.specs.Wikis.{title_p, title_u, at, race, race_5, race_12}
use Rattle.wk_examples.proofs.call_laws.soundness_of_a_start.Goals as goal

-- the wiki that isn't sound
abbrev behind : State
behind = record race_12 { stored = no_rows ∷ no_rows ∷ no_rows ∷ [] }

since-5 : IsSoundSince no_state race_5
unfolding computing
since-5 = IsSoundSince-replayed fan_pages no_state race_5 0 (take 5 race) IsWellFormed-none refl

since-12 : IsSoundSince no_state race_12
unfolding computing
since-12 = IsSoundSince-replayed fan_pages no_state race_12 0 race IsWellFormed-none refl

formed-behind : IsWellFormed behind
formed-behind = let formed = since-12.formed in record { stored = refl; jobs = formed.jobs; titles = formed.titles; texts = formed.texts }

pub returns-clause-formed : goal.returns-clause-formed
returns-clause-formed c = since-5.formed

pub returns-clause-sound : goal.returns-clause-sound
returns-clause-sound c = since-5.sound IsSound-none

pub returns-clause-replayed : goal.returns-clause-replayed
unfolding computing
returns-clause-replayed c = refl

pub returns-clause-lived : goal.returns-clause-lived
unfolding computing
returns-clause-lived c = refl

pub returns-clause-formed_behind : goal.returns-clause-formed_behind
returns-clause-formed_behind c = formed-behind

pub returns-clause-unsound : goal.returns-clause-unsound
unfolding computing
returns-clause-unsound c = λ sound. elim (sound 1 (at title_p 1) refl) [
  | inl current ↦ let e : [] ≡ title_t ∷ title_u ∷ [] = ap (λ (rows : PageRows). rows.templates) current in cc
  | inr covered ↦ let e : false ≡ true = covered in cc
]

pub returns-clause-since : goal.returns-clause-since
returns-clause-since c = IsSoundSince-start behind formed-behind
