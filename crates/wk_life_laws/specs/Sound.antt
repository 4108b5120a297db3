-- What a wiki keeps of soundness, whether or not its start is sound (own).
use Rattle.wk_wiki_rules.specs.States.{State}
use Rattle.wk_wiki_rules.specs.Soundness.{IsSound}
use Rattle.wk_wiki_laws.specs.WellFormed.{IsWellFormed}

-- the state is well formed, and sound where the start is
pub record IsSoundSince (start state : State) : Type 0 where
  pub formed : IsWellFormed state
  pub sound : IsSound start → IsSound state
