-- Which turn a pass is of, where that is told.
use Rattle.std.proofs.Common.{◌≡◌, Option, Some, IfSome, subst, sym}
use Rattle.wk_turn.specs.Told.{Begun, IsOf, Story}
use Rattle.wk_wiki_rules.specs.Events.{Event}
use Rattle.wk_wiki_rules.specs.Starts.{Start}

pub told-of : (told : Option (Begun Start)) (turn : Begun Start) (pass : Story Start Event) → told ≡ Some turn → IsOf turn pass → IfSome told (λ (t : Begun Start). IsOf t pass)
told-of told turn pass is holds = subst (λ (o : Option (Begun Start)). IfSome o (λ (t : Begun Start). IsOf t pass)) (sym is) holds
