use Rattle.std.proofs.Common.{◌≡◌}
use Rattle.wk_tools.specs.Rounds.{Drains}
use Rattle.wk_tools.proofs.Rounds.{rounds_left}
use Rattle.wk_tools.proofs.drains.drain_rounds.Given as goal

abbrev pub invariant-rounds : goal.invariant-rounds
invariant-rounds g l = Drains g.K.Keeper.told g.K.Keeper.faults l.fn.wiki l.wiki × (g.K.Keeper.faults l.wiki.keeper ≡ g.K.Keeper.faults l.fn.wiki.keeper)

abbrev pub decreases-rounds : goal.decreases-rounds
decreases-rounds g l = rounds_left l.wiki
