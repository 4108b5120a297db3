use Rattle.std.proofs.Common.{subst}
use Rattle.wk_wiki_rules.specs.Starts.{Start}
use Rattle.wk_wiki_laws.specs.Kept.{IsKept}
use Rattle.wk_turn.specs.Told.{Begun}
use Rattle.wk_shared.proofs.shared.Shared.facts.Goals as goal

pub returns : goal.returns
returns g c = subst (λ (t : Begun Start). IsKept t.start.state) c.self.view_is c.self.invariant
