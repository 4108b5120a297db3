use Rattle.std.proofs.Common.{subst, sym}
use Rattle.wk_wiki_rules.specs.Starts.{Start}
use Rattle.wk_wiki_laws.specs.Kept.{IsKept}
use Rattle.wk_shared.proofs.shared.Shared.new.Goals as goal

pub invariant_of-result : goal.invariant_of-result
invariant_of-result g c = subst (λ (s : Start). IsKept s.state) (sym c.in-Ok.ensures.ok.0) c.facts.ensures.run.kept
