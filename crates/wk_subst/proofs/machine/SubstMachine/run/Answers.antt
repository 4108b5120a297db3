use Rattle.std.proofs.Common.{sym, subst}
use Rattle.wk_view_rules.specs.Worlds.{Agrees, of_seen}
use Rattle.wk_subst.specs.MachineShown.{MachineShown}
use Rattle.wk_subst.proofs.machine.SubstMachine.run.Goals as goal

pub drive-requires-clause-answered : goal.drive-requires-clause-answered
drive-requires-clause-answered c = subst (λ (m : MachineShown). Agrees (of_seen c.args.seen.now) m.reads) (sym c.self.view_is) c.requires
