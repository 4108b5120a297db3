use Rattle.wk_revs.specs.Chains.{IsAbove}
use Rattle.wk_revs.proofs.chains.newest_up_to.Given as goal

abbrev pub invariant-back : goal.invariant-back
invariant-back l = IsAbove l.pages l.page l.number l.at

abbrev pub decreases-back : goal.decreases-back
decreases-back l = l.at
