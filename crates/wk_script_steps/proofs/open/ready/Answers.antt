use Rattle.std.proofs.Common.{Option, subst}
use Rattle.wk_expand.specs.Machines.{MachineShown}
use Rattle.wk_script_steps.specs.Drafts.{IsReady}
use Rattle.wk_script_steps.proofs.open.ready.Goals as goal

pub returns-in-Some : goal.returns-in-Some
returns-in-Some c = λ seen is. subst (λ (o : Option MachineShown). IsReady c.args.title.now seen o) c.in-Some.is is
