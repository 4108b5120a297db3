use Rattle.wk_script_steps.proofs.Drafting.{ran-of}
use Rattle.wk_script_steps.proofs.open.go_on.Goals as goal

pub run-requires : goal.run-requires
run-requires c = (c.in_ok-machine.ensures c.args.seen.now c.requires).2

pub returns-in-Ok : goal.returns-in-Ok
returns-in-Ok c =
    let is = c.in_ok-machine.ensures c.args.seen.now c.requires in
    ran-of c.args.title.now c.in_ok-machine.machine c.args.seen.now c.in-Ok.ran is.0 is.1 c.in-Ok.ensures.ran
