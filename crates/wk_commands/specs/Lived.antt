-- Lives of a wiki that was opened (own).
use Rattle.std.specs.Prelude.{◌≡◌, List, [], ◌∷◌, Some}
use Rattle.wk_wiki_rules.specs.States.{State}
use Rattle.wk_wiki_rules.specs.Events.{Event}
use Rattle.wk_wiki_rules.specs.Lives.{Lives, replay}

-- The journals are lives from the state on, and end in the last one: the first goes on from the state as it is, and each
-- later one begins with a restart.
abbrev pub LivesOn : State → List (List Event) → State → Type 0
LivesOn state [] last = last ≡ state
LivesOn state (journal ∷ later) last = (ended : State) × (replay state journal ≡ Some ended) × Lives ended later last

-- The last state is given by lives from the first one on.
pub record HasLivedOn (first last : State) : Type 0 where
  pub journals : List (List Event)
  pub lives : LivesOn first journals last
