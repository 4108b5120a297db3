use Rattle.std.proofs.Common.{◌-◌}
use Rattle.wk_expand.proofs.BinderLaws.{AreBoundTo}
use Rattle.wk_expand.proofs.state.Expander.bind.Given as goal

-- the parts before the next one are bound
abbrev pub invariant-parts : goal.invariant-parts
invariant-parts l = AreBoundTo l.self l.node l.fn.binder l.binder

abbrev pub decreases-parts : goal.decreases-parts
decreases-parts l = l.count - l.binder.at
