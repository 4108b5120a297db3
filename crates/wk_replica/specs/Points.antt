-- Replicas that have taken the first lines of a feed (own).
use Rattle.std.specs.Prelude.{◌≡◌, ℕ, List, [], ◌∷◌, ◌++◌, take, Some}
use Rattle.wk_wiki_rules.specs.States.{State}
use Rattle.wk_wiki_rules.specs.Events.{Event}
use Rattle.wk_wiki_rules.specs.Lives.{state_at}
use Rattle.wk_feed_rules.specs.Taking.{taken}
use Rattle.wk_replica.specs.Replicas.{IsNew, ReplicaSeen, so_far}

-- A replica that has taken these lines, one after the other.
pub data HasTakenLines : List (List ℕ) → ReplicaSeen → Type 0 where
  none_yet : {replica : ReplicaSeen} → IsNew replica → HasTakenLines [] replica
  one_more : {lines : List (List ℕ)} {old new : ReplicaSeen} (line : List ℕ)
      → HasTakenLines lines old → taken (so_far old) line ≡ Some (so_far new) → HasTakenLines (lines ++ line ∷ []) new

-- It is what the wiki that began in this state was behind so many of these events.
pub record IsAt (from : State) (events : List Event) (point : ℕ) (replica : ReplicaSeen) : Type 0 where
  pub start : replica.start.wiki.state ≡ from
  pub journal : replica.journal ≡ take point events
  pub state : state_at from events point ≡ Some replica.state
