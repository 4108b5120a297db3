use Rattle.std.proofs.Common.{sym, subst}
use Rattle.wk_view_rules.specs.Worlds.{Agrees, of_seen}
use Rattle.wk_expand.specs.Machines.{MachineShown}
use Rattle.wk_expand.proofs.DraftLaws.{nothing-agrees}
use Rattle.wk_expand.proofs.drafting.draft.Goals as goal

pub run-requires : goal.run-requires
run-requires c = subst (λ (m : MachineShown). Agrees (of_seen c.args.seen.now) m.reads) (sym c.in_ok-machine.ensures) (nothing-agrees c.args.seen.now)
